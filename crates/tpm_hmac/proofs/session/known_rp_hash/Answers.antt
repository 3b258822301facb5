use Rattle.std.proofs.Common.{refl}
use Rattle.sha1.specs.Sha1 as S1
use Rattle.sha2.specs.Sha256 as S2
use Rattle.sha2.specs.Sha512 as S3
use Rattle.tpm_hmac.specs.Hashes.{digest}
use Rattle.tpm_hmac.proofs.session.known_rp_hash.Goals as goal

pub returns-in-Sha1-NvUndefineSpace : goal.returns-in-Sha1-NvUndefineSpace
unfolding digest S1.first_words S1.schedule S1.rounds S1.compress S1.hash_after S1.digest_bytes S1.sha1
returns-in-Sha1-NvUndefineSpace c = rw (c.in-Sha1-NvUndefineSpace.is-0, c.in-Sha1-NvUndefineSpace.is-1) refl

pub returns-in-Sha1-NvDefineSpace : goal.returns-in-Sha1-NvDefineSpace
unfolding digest S1.first_words S1.schedule S1.rounds S1.compress S1.hash_after S1.digest_bytes S1.sha1
returns-in-Sha1-NvDefineSpace c = rw (c.in-Sha1-NvDefineSpace.is-0, c.in-Sha1-NvDefineSpace.is-1) refl

pub returns-in-Sha1-NvIncrement : goal.returns-in-Sha1-NvIncrement
unfolding digest S1.first_words S1.schedule S1.rounds S1.compress S1.hash_after S1.digest_bytes S1.sha1
returns-in-Sha1-NvIncrement c = rw (c.in-Sha1-NvIncrement.is-0, c.in-Sha1-NvIncrement.is-1) refl

pub returns-in-Sha1-PcrReset : goal.returns-in-Sha1-PcrReset
unfolding digest S1.first_words S1.schedule S1.rounds S1.compress S1.hash_after S1.digest_bytes S1.sha1
returns-in-Sha1-PcrReset c = rw (c.in-Sha1-PcrReset.is-0, c.in-Sha1-PcrReset.is-1) refl

pub returns-in-Sha1-PcrExtend : goal.returns-in-Sha1-PcrExtend
unfolding digest S1.first_words S1.schedule S1.rounds S1.compress S1.hash_after S1.digest_bytes S1.sha1
returns-in-Sha1-PcrExtend c = rw (c.in-Sha1-PcrExtend.is-0, c.in-Sha1-PcrExtend.is-1) refl

pub returns-in-Sha256-NvUndefineSpace : goal.returns-in-Sha256-NvUndefineSpace
unfolding digest S2.first_words S2.schedule S2.rounds S2.compress S2.hash_after S2.digest_bytes S2.sha256
returns-in-Sha256-NvUndefineSpace c = rw (c.in-Sha256-NvUndefineSpace.is-0, c.in-Sha256-NvUndefineSpace.is-1) refl

pub returns-in-Sha256-NvDefineSpace : goal.returns-in-Sha256-NvDefineSpace
unfolding digest S2.first_words S2.schedule S2.rounds S2.compress S2.hash_after S2.digest_bytes S2.sha256
returns-in-Sha256-NvDefineSpace c = rw (c.in-Sha256-NvDefineSpace.is-0, c.in-Sha256-NvDefineSpace.is-1) refl

pub returns-in-Sha256-NvIncrement : goal.returns-in-Sha256-NvIncrement
unfolding digest S2.first_words S2.schedule S2.rounds S2.compress S2.hash_after S2.digest_bytes S2.sha256
returns-in-Sha256-NvIncrement c = rw (c.in-Sha256-NvIncrement.is-0, c.in-Sha256-NvIncrement.is-1) refl

pub returns-in-Sha256-PcrReset : goal.returns-in-Sha256-PcrReset
unfolding digest S2.first_words S2.schedule S2.rounds S2.compress S2.hash_after S2.digest_bytes S2.sha256
returns-in-Sha256-PcrReset c = rw (c.in-Sha256-PcrReset.is-0, c.in-Sha256-PcrReset.is-1) refl

pub returns-in-Sha256-PcrExtend : goal.returns-in-Sha256-PcrExtend
unfolding digest S2.first_words S2.schedule S2.rounds S2.compress S2.hash_after S2.digest_bytes S2.sha256
returns-in-Sha256-PcrExtend c = rw (c.in-Sha256-PcrExtend.is-0, c.in-Sha256-PcrExtend.is-1) refl

pub returns-in-Sha384-NvUndefineSpace : goal.returns-in-Sha384-NvUndefineSpace
unfolding digest S3.first_words S3.schedule S3.rounds S3.compress S3.hash_after S3.digest_bytes S3.sha384
returns-in-Sha384-NvUndefineSpace c = rw (c.in-Sha384-NvUndefineSpace.is-0, c.in-Sha384-NvUndefineSpace.is-1) refl

pub returns-in-Sha384-NvDefineSpace : goal.returns-in-Sha384-NvDefineSpace
unfolding digest S3.first_words S3.schedule S3.rounds S3.compress S3.hash_after S3.digest_bytes S3.sha384
returns-in-Sha384-NvDefineSpace c = rw (c.in-Sha384-NvDefineSpace.is-0, c.in-Sha384-NvDefineSpace.is-1) refl

pub returns-in-Sha384-NvIncrement : goal.returns-in-Sha384-NvIncrement
unfolding digest S3.first_words S3.schedule S3.rounds S3.compress S3.hash_after S3.digest_bytes S3.sha384
returns-in-Sha384-NvIncrement c = rw (c.in-Sha384-NvIncrement.is-0, c.in-Sha384-NvIncrement.is-1) refl

pub returns-in-Sha384-PcrReset : goal.returns-in-Sha384-PcrReset
unfolding digest S3.first_words S3.schedule S3.rounds S3.compress S3.hash_after S3.digest_bytes S3.sha384
returns-in-Sha384-PcrReset c = rw (c.in-Sha384-PcrReset.is-0, c.in-Sha384-PcrReset.is-1) refl

pub returns-in-Sha384-PcrExtend : goal.returns-in-Sha384-PcrExtend
unfolding digest S3.first_words S3.schedule S3.rounds S3.compress S3.hash_after S3.digest_bytes S3.sha384
returns-in-Sha384-PcrExtend c = rw (c.in-Sha384-PcrExtend.is-0, c.in-Sha384-PcrExtend.is-1) refl
