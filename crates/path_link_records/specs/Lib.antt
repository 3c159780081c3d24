-- The definitions of the crate `path_link_records`: the records of one link.
pub mod LinkRecords
