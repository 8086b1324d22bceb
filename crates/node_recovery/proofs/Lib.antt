pub mod RecoveringLaws
