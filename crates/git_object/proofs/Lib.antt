pub mod LineLemmas
pub mod HeaderLemmas
pub mod ParentLemmas
pub mod CommitSteps
pub mod TagSteps
pub mod OrderSteps
pub mod TreeSteps
pub mod IdentSteps
