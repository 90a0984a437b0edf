pub mod Scopes
pub mod Kept
pub mod Unique
pub mod Levels
pub mod Computed
pub mod SurveyGoes
pub mod SurveyEnds
pub mod Fronts
