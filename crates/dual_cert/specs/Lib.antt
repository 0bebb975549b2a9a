pub mod TableCertificate
pub mod OtherCertificate
pub mod PlaceTable
