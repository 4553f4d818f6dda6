pub mod TextDevices
