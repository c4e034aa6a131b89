pub mod FaultSumLaws
