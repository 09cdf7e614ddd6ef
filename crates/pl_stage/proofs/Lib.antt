pub mod FirmLaws
