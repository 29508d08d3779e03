mod Stepwise
