pub mod Letters
pub mod Publication
pub mod Flows
pub mod Editions
pub mod Proper
pub mod Step
pub mod ByTable
pub mod Demand3
