pub mod Bytes
pub mod Readers
pub mod GateLaw
pub mod StartLaw
pub mod FaultLaw
pub mod HeadLaw
pub mod JobLaw
