pub mod Requests
pub mod Adding
pub mod Reducing
pub mod Comparing
pub mod Asking
pub mod AddPlan
pub mod ReducePlan
