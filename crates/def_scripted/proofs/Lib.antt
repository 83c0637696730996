mod VectorLemmas
