pub mod Elections
