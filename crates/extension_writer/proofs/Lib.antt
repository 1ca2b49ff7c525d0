pub mod ExtensionBytes
