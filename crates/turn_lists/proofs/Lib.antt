mod TakenIn
