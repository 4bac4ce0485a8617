pub mod OurReject
