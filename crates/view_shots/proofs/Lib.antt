pub mod ShotSteps
