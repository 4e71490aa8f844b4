-- What a reader has to believe: which harts a folder has, which names addresses have, rows with both, and which addresses
-- names say.
pub mod AddressNames
pub mod HartNames
pub mod HartLists
pub mod NamedAddresses
pub mod NumberedTexts
pub mod WholeRows
-- The rest, which only private contracts cite.
pub mod Keys
pub mod NameLists
pub mod Parts
