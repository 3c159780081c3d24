-- The definitions of the crate `view_laws`: what is claimed of the view.
pub mod Named
