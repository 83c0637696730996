mod StartFacts
