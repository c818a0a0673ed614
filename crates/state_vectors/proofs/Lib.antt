mod Births
