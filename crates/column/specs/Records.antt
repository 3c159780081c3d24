-- Records in a column: each takes as many entries as its layout says, one record after the other. Definitions only.
use Rattle.std.specs.Prelude.{ℕ, zero, suc, ◌*◌, List, [], ◌∷◌, ◌++◌, get_or, drop, Float}
use Rattle.std.proofs.lemmas.List.Edits.{sets}
use Rattle.ieee.specs.Number.{+0}
use Rattle.column.specs.declared.Two.{Two}
use Rattle.column.specs.declared.Three.{Three}
use Rattle.column.specs.declared.Four.{Four}

-- how records of a kind R stand in a column of A
pub record Layout (A R : Type 0) : Type 0 where
  -- entries to a record
  pub width : ℕ
  -- a record's entries
  pub pack : R → List A
  -- the record at the front of a list, with zeros for what is not there
  pub unpack : List A → R

module _ {A R : Type 0} (L : Layout A R) where
  -- the first n records of a column
  unfoldable pub records : ℕ → List A → List R
  records zero c = []
  records (suc n) c = L.unpack c ∷ records n (drop L.width c)

  -- the entries of a list of records
  unfoldable pub flat : List R → List A
  flat [] = []
  flat (r ∷ rs) = L.pack r ++ flat rs

  -- record i of a column
  unfoldable pub record_at : List A → ℕ → R
  record_at c i = L.unpack (drop (L.width * i) c)

  -- r in the place of record i, as far as the column has entries
  unfoldable pub put_record : List A → ℕ → R → List A
  put_record c i r = sets c (L.width * i) (L.pack r)

-- two and three f64 to a record, and four u32
abbrev pub two : Layout Float Two
two = record { width = 2; pack = λ r. r.0 ∷ r.1 ∷ []; unpack = λ l. record { 0 = get_or l 0 +0; 1 = get_or l 1 +0 } }

abbrev pub three : Layout Float Three
three =
    record {
      width = 3;
      pack = λ r. r.0 ∷ r.1 ∷ r.2 ∷ [];
      unpack = λ l. record { 0 = get_or l 0 +0; 1 = get_or l 1 +0; 2 = get_or l 2 +0 };
    }

abbrev pub four : Layout ℕ Four
four =
    record {
      width = 4;
      pack = λ r. r.0 ∷ r.1 ∷ r.2 ∷ r.3 ∷ [];
      unpack = λ l. record { 0 = get_or l 0 0; 1 = get_or l 1 0; 2 = get_or l 2 0; 3 = get_or l 3 0 };
    }
