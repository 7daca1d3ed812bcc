mod Freshness
