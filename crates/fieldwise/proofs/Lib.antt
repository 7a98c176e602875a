pub mod ReaderLaws
pub mod NumberedLaws
pub mod InFileLaws
pub mod CutLaws
pub mod ShownLaws
