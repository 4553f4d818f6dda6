pub mod ListedPush
