-- The files of a store owe what the exchange between FoE client and server asks of files.
use Rattle.std.proofs.Common.{◌≡◌, ℕ, ◌+◌, ◌<◌, ◌≤◌, ◌==◌, ◌&&◌, nat_le, not, Bool, true, false, List, [], ◌∷◌, length, refl, ap, subst, ◌∙◌, arith, Option, Some, None, option_map, unwrap_or, if◌then◌else◌}
use Rattle.std.specs.Prelude.{find}
use Rattle.std.specs.List.{list_all}
use Rattle.std.proofs.lemmas.Bool.{le-leb, leb-true, and_parts, and_from}
use Rattle.std.proofs.lemmas.List.Sums.{sum_by-cons}
use Rattle.file_store.specs.of_block_pool.Region.{blocks_for}
use Rattle.file_store.specs.Files.{Filed, Kept, taken, free_of, is_named, file_of, has_room, is_valid, code_at, rewritten, put}
use Rattle.protocol_models.specs.Files.{AreLawful, AreSpelled}
use Rattle.foe_server.specs.Stores.{store_files}

-- what holds of files within the limits
record Limits (s : Kept) : Type 0 where
  small : s.blocks ≤ 1024
  within : taken s.files ≤ s.blocks
  calm : list_all (λ file. nat_le file.spec.busy 15) s.files ≡ true

limits_of : (s : Kept) → is_valid s ≡ true → Limits s
limits_of s valid =
    let both = and_parts (nat_le s.blocks 1024 && nat_le (taken s.files) s.blocks) (list_all (λ file. nat_le file.spec.busy 15) s.files) valid in
    let room = and_parts (nat_le s.blocks 1024) (nat_le (taken s.files) s.blocks) both.0 in
    record { small = leb-true s.blocks 1024 room.0; within = leb-true (taken s.files) s.blocks room.1; calm = both.1 }

from_limits : (s : Kept) → Limits s → is_valid s ≡ true
from_limits s limits =
    and_from (nat_le s.blocks 1024 && nat_le (taken s.files) s.blocks) (list_all (λ file. nat_le file.spec.busy 15) s.files)
    (and_from (nat_le s.blocks 1024) (nat_le (taken s.files) s.blocks) (le-leb s.blocks 1024 limits.small) (le-leb (taken s.files) s.blocks limits.within)) limits.calm

cons_taken : (file : Filed) (files : List Filed) → taken (file ∷ files) ≡ blocks_for (length file.octets) + taken files
cons_taken file files = sum_by-cons (λ (f : Filed). blocks_for (length f.octets)) file files

-- a file that is found has no more blocks than all of them, and is as quiet as all of them
found_within : (name : List ℕ) (files : List Filed) (file : Filed) → find (is_named name) files ≡ Some file → blocks_for (length file.octets) ≤ taken files
found_within name [] file is = absurd (cc)
found_within name (f ∷ fs) file is =
    elim (is_named name f) as (λ b. (if b then Some f else find (is_named name) fs) ≡ Some file → blocks_for (length file.octets) ≤ taken (f ∷ fs)) [
      | true ↦ λ is. let same : f ≡ file = cc is in omega (arith, cons_taken f fs, ap (λ (g : Filed). blocks_for (length g.octets)) same)
      | false ↦ λ is. omega (arith, cons_taken f fs, found_within name fs file is)
    ] is

found_quiet : (name : List ℕ) (files : List Filed) (file : Filed) → find (is_named name) files ≡ Some file → list_all (λ file. nat_le file.spec.busy 15) files ≡ true → file.spec.busy ≤ 15
found_quiet name [] file is calm = absurd (cc)
found_quiet name (f ∷ fs) file is calm =
    let both = and_parts (nat_le f.spec.busy 15) (list_all (λ file. nat_le file.spec.busy 15) fs) calm in
    elim (is_named name f) as (λ b. (if b then Some f else find (is_named name) fs) ≡ Some file → file.spec.busy ≤ 15) [
      | true ↦ λ is. let same : f ≡ file = cc is in subst (λ (g : Filed). g.spec.busy ≤ 15) same (leb-true f.spec.busy 15 both.0)
      | false ↦ λ is. found_quiet name fs file is both.1
    ] is

short_any : (s : Kept) (name : List ℕ) (o : Option Filed) → file_of s name ≡ o → Limits s → length (unwrap_or (option_map (λ file. file.octets) o) []) ≤ 131072
short_any s name None is limits = omega arith
short_any s name (Some file) is limits = omega (arith, found_within name s.files file is, limits.within, limits.small)

quiet_any : (s : Kept) (name : List ℕ) (o : Option Filed) → file_of s name ≡ o → Limits s → unwrap_or (option_map (λ file. file.spec.busy) o) 0 ≤ 15
quiet_any s name None is limits = omega arith
quiet_any s name (Some file) is limits = found_quiet name s.files file is limits.calm

-- a new version adds no more than its own blocks
rewritten_within : (files : List Filed) (name octets : List ℕ) → taken (rewritten files name octets) ≤ taken files + blocks_for (length octets)
rewritten_within [] name octets = omega arith
rewritten_within (f ∷ fs) name octets =
    elim (is_named name f) as (λ b. taken (if b then record f { octets = octets } ∷ fs else f ∷ rewritten fs name octets) ≤ taken (f ∷ fs) + blocks_for (length octets)) [
      | true ↦ omega (arith, cons_taken (record f { octets = octets }) fs, cons_taken f fs)
      | false ↦ omega (arith, cons_taken f (rewritten fs name octets), cons_taken f fs, rewritten_within fs name octets)
    ]

rewritten_quiet : (files : List Filed) (name octets : List ℕ) → list_all (λ file. nat_le file.spec.busy 15) (rewritten files name octets) ≡ list_all (λ file. nat_le file.spec.busy 15) files
rewritten_quiet [] name octets = refl
rewritten_quiet (f ∷ fs) name octets =
    elim (is_named name f) as (λ b. list_all (λ file. nat_le file.spec.busy 15) (if b then record f { octets = octets } ∷ fs else f ∷ rewritten fs name octets) ≡ list_all (λ file. nat_le file.spec.busy 15) (f ∷ fs)) [
      | true ↦ refl
      | false ↦ ap (λ b. nat_le f.spec.busy 15 && b) (rewritten_quiet fs name octets)
    ]

stays_valid : (s : Kept) (name octets : List ℕ) → is_valid s ≡ true → has_room s (length octets) ≡ true → is_valid (put s name octets) ≡ true
stays_valid s name octets valid room =
    let limits = limits_of s valid in
    let fits : blocks_for (length octets) ≤ free_of s = leb-true (blocks_for (length octets)) (free_of s) room in
    from_limits (put s name octets) (record {
      small = limits.small;
      within = omega (arith, rewritten_within s.files name octets, limits.within, fits);
      calm = rewritten_quiet s.files name octets ∙ limits.calm;
    })

room_for_less : (s : Kept) (few more : ℕ) → few ≤ more → has_room s more ≡ true → has_room s few ≡ true
room_for_less s few more less room = le-leb (blocks_for few) (free_of s) (omega (arith, leb-true (blocks_for more) (free_of s) room))

-- each code has 32 bits
small_code : (a b c d : Bool) (code : ℕ) → (if a then Some 0x8008 else if b then Some 0x8009 else if c then Some 0x8002 else if d then Some 0x8002 else None) ≡ Some code → code < 4294967296
small_code true b c d code is = let at : 0x8008 ≡ code = cc is in omega (arith, at)
small_code false true c d code is = let at : 0x8009 ≡ code = cc is in omega (arith, at)
small_code false false true d code is = let at : 0x8002 ≡ code = cc is in omega (arith, at)
small_code false false false true code is = let at : 0x8002 ≡ code = cc is in omega (arith, at)
small_code false false false false code is = absurd (cc)

code_any : (o : Option Filed) (pass : ℕ) (write : Bool) (al code : ℕ) → code_at o pass write al ≡ Some code → code < 4294967296
code_any None pass write al code is = let at : 0x8001 ≡ code = cc is in omega (arith, at)
code_any (Some file) pass write al code is =
    small_code (file.spec.boot && not (al == 3)) (not file.spec.boot && al == 3) (not (pass == file.spec.pass)) (not (if write then file.spec.write else file.spec.read)) code is

pub files_are_lawful : (al : ℕ) → AreLawful (store_files al)
files_are_lawful al = record {
  less = room_for_less;
  short = λ s name pass valid allowed. short_any s name (file_of s name) refl (limits_of s valid);
  stays = λ s name bytes pass valid allowed room. stays_valid s name bytes valid room;
}

pub files_are_spelled : (al : ℕ) → AreSpelled (store_files al)
files_are_spelled al = record {
  code = λ s name pass write code valid is. code_any (file_of s name) pass write al code is;
  busy = λ s name valid. let few = quiet_any s name (file_of s name) refl (limits_of s valid) in omega (arith, few);
}
