-- What the program reads: the files at its paths, and standard input.
use Rattle.std.specs.Prelude.{ℕ, Bool, List, Option, Some, None, Result, Ok, Err}
use Rattle.std.specs.Borrow.{Bor}
use Rattle.tpm_program.specs.declared.cause.Cause.{Cause}

-- what is known of them, which may be nothing
pub record Offered : Type 1 where
  -- what comes of opening a path: the file's bytes, where they are told, or why there is no file
  pub opens : (path : List ℕ) → Result (Option (List ℕ)) Cause → Type 0
  -- the bytes of standard input, where they are told
  pub stands : Option (List ℕ) → Type 0
  -- whether a path is a folder's
  pub is_folder : (path : List ℕ) → Bool → Type 0
  -- A read of one of them failed.
  pub fails : Type 0

-- what opening gave, by the bytes that are to come of it
abbrev pub coming_of : {S : Type 0} → (coming : S → Option (List ℕ)) → Result S Cause
    → Result (Option (List ℕ)) Cause
coming_of coming (Ok source) = Ok (coming source)
coming_of coming (Err kind) = Err kind

-- The file at this path is opened, and this holds of its bytes.
abbrev pub OfFile : Offered → (path : List ℕ) → (Option (List ℕ) → Type 0) → Type 0
OfFile offered path P = (coming : Option (List ℕ)) × offered.opens path (Ok coming) × P coming

-- the same of standard input, where there is no path
abbrev pub OfPlace : Offered → (path : Option (Bor (List ℕ))) → (Option (List ℕ) → Type 0) → Type 0
OfPlace offered None P = (coming : Option (List ℕ)) × offered.stands coming × P coming
OfPlace offered (Some path) P = OfFile offered path.now P

-- the same of no file, where there is no path
abbrev pub OfFileIf : Offered → (path : Option (Bor (List ℕ))) → (Option (Option (List ℕ)) → Type 0) → Type 0
OfFileIf offered None P = P None
OfFileIf offered (Some path) P = OfFile offered path.now (λ coming. P (Some coming))
