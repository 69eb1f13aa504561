-- 01's listing example, and files that end it with `stop`.
use Rattle.std.specs.Prelude.{ℕ, List, [], ◌∷◌, ◌++◌, take, drop, replicate}
use Rattle.records.specs.Listing.{listing}
use Rattle.examples.specs.Examples.{Example}
use Rattle.examples.specs.Inputs.{properties, record_of}

-- "no label, extension 1, body and allocation 3, class 0"
unfoldable pub first_record : List ℕ
first_record = record_of (properties 0 0 3 1 (replicate 4 7))

-- no answer class label ext body total
unfoldable pub header_printed : List ℕ
header_printed =
    (110 ∷ 111 ∷ 32 ∷ 97 ∷ 110 ∷ 115 ∷ 119 ∷ 101 ∷ 114 ∷ 32 ∷ 99 ∷ 108 ∷ 97 ∷ 115 ∷ 115 ∷ 32 ∷ [])
    ++ (108 ∷ 97 ∷ 98 ∷ 101 ∷ 108 ∷ 32 ∷ 101 ∷ 120 ∷ 116 ∷ 32 ∷ 98 ∷ 111 ∷ 100 ∷ 121 ∷ 32 ∷ [])
    ++ (116 ∷ 111 ∷ 116 ∷ 97 ∷ 108 ∷ 10 ∷ [])

-- 0 ok 0 0 1 3 60
unfoldable pub first_printed : List ℕ
first_printed = 48 ∷ 32 ∷ 111 ∷ 107 ∷ 32 ∷ 48 ∷ 32 ∷ 48 ∷ 32 ∷ 49 ∷ 32 ∷ 51 ∷ 32 ∷ 54 ∷ 48 ∷ 10 ∷ []

-- 1 refused 1 0, end 2
unfoldable pub rest_printed : List ℕ
rest_printed =
    (49 ∷ 32 ∷ 114 ∷ 101 ∷ 102 ∷ 117 ∷ 115 ∷ 101 ∷ 100 ∷ 32 ∷ 49 ∷ 32 ∷ 48 ∷ 10 ∷ [])
    ++ (101 ∷ 110 ∷ 100 ∷ 32 ∷ 50 ∷ 10 ∷ [])

-- stop 1
unfoldable pub stop_printed : List ℕ
stop_printed = 115 ∷ 116 ∷ 111 ∷ 112 ∷ 32 ∷ 49 ∷ 10 ∷ []

-- behind the first record
abbrev pub prints : List ℕ → List ℕ → Example
prints behind lines = record { told = listing (first_record ++ behind); expected = header_printed ++ (first_printed ++ lines) }

unfoldable pub listings : List Example
listings =
    -- "Two records without security, first .., then a single byte, print: .."
    prints (record_of (7 ∷ [])) rest_printed
    -- "A wrong or cut record head, or a cut section, ends it with `stop` and the record number instead."
    ∷ prints (0x57 ∷ 0x53 ∷ drop 2 (record_of (7 ∷ []))) stop_printed
    ∷ prints (take 7 (record_of (7 ∷ []))) stop_printed
    ∷ prints (take 8 (record_of (7 ∷ []))) stop_printed
    ∷ []
