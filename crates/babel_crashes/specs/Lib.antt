pub mod NodeSteps
pub mod IntakeLaws
pub mod CrashLaws
