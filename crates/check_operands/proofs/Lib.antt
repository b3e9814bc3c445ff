mod Decays
