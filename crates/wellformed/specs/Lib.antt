pub mod Faults
pub mod FaultSum
pub mod WellFormed
