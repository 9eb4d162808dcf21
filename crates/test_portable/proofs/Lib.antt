pub mod ProductLemmas
