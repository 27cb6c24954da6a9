pub mod Proxied
