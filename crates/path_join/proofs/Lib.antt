-- The laws that the proofs cite: what is left of a list, where links begin and end, the records of the listed links behind those of a path,
-- and questions 8 and 9 of the list.
pub mod Left
pub mod Starting
pub mod OnPoints
pub mod OnRecords
pub mod OnPowers
pub mod Carried
pub mod Summed
pub mod Fitting
