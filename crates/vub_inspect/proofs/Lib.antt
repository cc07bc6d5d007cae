mod MemoryLemmas
