pub mod LawfulRun
