pub mod Ups
