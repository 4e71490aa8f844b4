pub mod FrontTexts
pub mod KnownLogs
pub mod LogTexts
pub mod Readings
pub mod SurveyedLogs
pub mod WholeLogs
pub mod WholeSurveys
