-- What another bank of registers changes, with the hashes of Alg.
use Rattle.std.specs.Prelude.{ℕ, ◌+◌}

-- how many entries a list with one for each bank has at most
abbrev pub banks : ℕ
banks = 3

-- how many bytes a digest, a nonce and an authorization value have at most: the longest digest of a bank
abbrev pub digest_bytes : ℕ
digest_bytes = 48

-- how many bytes the longest block of a hash has, which the key of an HMAC fills
abbrev pub block_bytes : ℕ
block_bytes = 128

-- how many bytes a Name has at most: the number of a hash, and its digest
abbrev pub name_bytes : ℕ
name_bytes = 2 + digest_bytes

-- how many bytes the public area of an NV index has at most: nvIndex, nameAlg, attributes, a sized digest and dataSize
abbrev pub public_bytes : ℕ
public_bytes = 4 + 2 + 4 + (2 + digest_bytes) + 2
