pub mod Contexts
pub mod Lives
pub mod Askings
pub mod Surveys
pub mod SurveyLaws
