-- Document 01 as definitions, in the order in which each file needs those before it.
-- The sheet and questions 1 to 5
pub mod Bytes
pub mod Count
pub mod Sheet
-- Rules: opcodes, successors, join, written slots, charges, closure, transfers, parameters, defined run
pub mod Opcode
pub mod Successors
pub mod Fact
pub mod Written
pub mod Charges
pub mod Dependencies
pub mod Closure
pub mod Transfer
pub mod Parameters
pub mod Run
pub mod Analyses
-- Tables, questions 6 to 9, listing
pub mod Tables
pub mod Call
pub mod Promise
pub mod Lookup
pub mod Listing
-- The C interface; what it tells a loader beside the call
pub mod Interface
pub mod Room
-- What demand 3 says: of a run, and of a call
pub mod Demand
pub mod CallDemand
