pub mod FileBells
pub mod FileLaws
pub mod FileShareds
pub mod FileSpaces
