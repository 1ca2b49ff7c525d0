pub mod JudgedTwo
