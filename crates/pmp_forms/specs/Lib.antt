-- What a reader has to believe: the columns of a command's rows, and the text of rows in each form.
pub mod Cases
pub mod Json
pub mod Junit
pub mod Markdown
pub mod Sarif
pub mod Tables
pub mod Texts
