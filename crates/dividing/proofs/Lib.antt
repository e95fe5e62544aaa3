pub mod Walking
pub mod Places
pub mod Serving
pub mod Turning
pub mod Reciprocal
pub mod LotSteps
pub mod SetterPlace
