pub mod Results
pub mod Verdict
pub mod VerdictLaws
