pub mod OwnLaws
pub mod FaultLaws
