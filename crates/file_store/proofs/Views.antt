-- The same steps on what a store shows.
use Rattle.std.proofs.Common.{◌≡◌, ℕ, ◌<◌, ◌≤◌, ◌&&◌, nat_le, Bool, true, List, [], ◌∷◌, ◌++◌, length, map, get_or, refl, sym, ap, subst, ◌∙◌, arith, Option, Some, None, is_some, option_map, Result, OnOk, OnErr}
use Rattle.std.specs.Prelude.{All, find, slice_set}
use Rattle.std.specs.List.{list_all}
use Rattle.std.proofs.lemmas.Bool.{le-leb}
use Rattle.std.proofs.lemmas.List.{length-map}
use Rattle.std.proofs.lemmas.List.Elements.{All-head, All-tail}
use Rattle.std.proofs.lemmas.List.Sums.{get_or-le-sum_by}
use Rattle.block_pool.specs.Region.{Region, AllLive, Begins, Appends, Closes, chain_of, blocks_for}
use Rattle.file_store.specs.declared.file.File.{File}
use Rattle.file_store.specs.declared.file.Version.{Version}
use Rattle.file_store.specs.Files.{Filed, taken, is_valid, is_named, file_of, put}
use Rattle.file_store.specs.Stored.{Stored, part_name, part_octets}
use Rattle.file_store.specs.Store.{filed, stored_of, kept_of, has_name, IsPlaceOf, IsStore}
use Rattle.file_store.proofs.Places.{filed_at, find_filed, file_at, no_file}
use Rattle.file_store.proofs.Steps.{not_full, begun, begun_kept, dropped, dropped_kept, appended_any, kept_any, committed, committed_kept, inserted, inserted_kept, not_full_any}

pub drop_shown : (old new : Region) (files : List File) (before after : Option Version) (part : Version) (v : Stored) → before ≡ Some part → after ≡ None
    → stored_of old files before ≡ v → IsStore old files before → Closes old part.chain new → stored_of new files after ≡ record { kept = v.kept; part = None }
drop_shown old new files before after part v is gone view s closes =
    ap (stored_of new files) gone ∙ dropped old new files part (subst (IsStore old files) is s) closes
    ∙ ap (λ (w : Stored). record { kept = w.kept; part = None }) (ap (stored_of old files) (sym is) ∙ view)

pub drop_kept : (old new : Region) (files : List File) (before after : Option Version) (part : Version) → before ≡ Some part → after ≡ None
    → IsStore old files before → Closes old part.chain new → IsStore new files after
drop_kept old new files before after part is gone s closes = subst (IsStore new files) (sym gone) (dropped_kept old new files part (subst (IsStore old files) is s) closes)

pub append_shown : {E : Type 0} (old new : Region) (files : List File) (p : Option Version) (part : Version) (bytes : List ℕ) (r : Result (Unit {0}) E) (v : Stored) → p ≡ Some part
    → stored_of old files p ≡ v → IsStore old files p → OnOk r (Appends old part.chain bytes new)
    → OnOk r (stored_of new files p ≡ record { kept = v.kept; part = Some (record { name = part_name v; octets = part_octets v ++ bytes }) })
append_shown old new files p part bytes r v is view s appends =
    subst (λ (w : Stored). OnOk r (stored_of new files p ≡ record { kept = w.kept; part = Some (record { name = part_name w; octets = part_octets w ++ bytes }) })) view
    (subst (λ (q : Option Version). OnOk r (stored_of new files q ≡ record { kept = (stored_of old files q).kept; part = Some (record { name = part_name (stored_of old files q); octets = part_octets (stored_of old files q) ++ bytes }) })) (sym is)
    (appended_any old new files part bytes r (subst (IsStore old files) is s) appends))

pub append_kept : {E : Type 0} (old new : Region) (files : List File) (p : Option Version) (part : Version) (bytes : List ℕ) (r : Result (Unit {0}) E) → p ≡ Some part
    → IsStore old files p → OnOk r (Appends old part.chain bytes new) → OnErr r (new ≡ old) → IsStore new files p
append_kept old new files p part bytes r is s appends same =
    subst (IsStore new files) (sym is) (kept_any old new files part bytes r (subst (IsStore old files) is s) appends same)

pub commit_shown : (old new : Region) (files : List File) (before after : Option Version) (part : Version) (place : ℕ) (file : File) (v : Stored) → before ≡ Some part → after ≡ None
    → stored_of old files before ≡ v → IsStore old files before → IsPlaceOf part.name.items files place → file ≡ get_or files place file → Closes old file.chain new
    → stored_of new (slice_set files place (record { spec = file.spec; chain = part.chain })) after ≡ record { kept = put v.kept (part_name v) (part_octets v); part = None }
commit_shown old new files before after part place file v is gone view s at here closes =
    ap (stored_of new (slice_set files place (record { spec = file.spec; chain = part.chain }))) gone
    ∙ committed old new files part place file (subst (IsStore old files) is s) at here closes
    ∙ ap (λ (w : Stored). record { kept = put w.kept (part_name w) (part_octets w); part = None }) (ap (stored_of old files) (sym is) ∙ view)

pub commit_kept : (old new : Region) (files : List File) (before after : Option Version) (part : Version) (place : ℕ) (file : File) → before ≡ Some part → after ≡ None
    → IsStore old files before → IsPlaceOf part.name.items files place → file ≡ get_or files place file → Closes old file.chain new
    → IsStore new (slice_set files place (record { spec = file.spec; chain = part.chain })) after
commit_kept old new files before after part place file is gone s at here closes =
    subst (IsStore new (slice_set files place (record { spec = file.spec; chain = part.chain }))) (sym gone)
    (committed_kept old new files part place file (subst (IsStore old files) is s) at here closes)

-- a store keeps within its limits
all_quiet : (region : Region) (files : List File) → All (λ (f : File). f.spec.busy ≤ 15) files → list_all (λ (f : Filed). nat_le f.spec.busy 15) (map (filed region) files) ≡ true
all_quiet region [] quiet = refl
all_quiet region (f ∷ fs) quiet =
    rw (le-leb f.spec.busy 15 (All-head (λ (g : File). g.spec.busy ≤ 15) f fs quiet)) (all_quiet region fs (All-tail (λ (g : File). g.spec.busy ≤ 15) f fs quiet))

both : (a b c : Bool) → a ≡ true → b ≡ true → c ≡ true → (a && b && c) ≡ true
both a b c p q r = rw (p, q, r) refl

pub valid_kept : (region : Region) (files : List File) (part : Option Version) → IsStore region files part → is_valid (kept_of region files part) ≡ true
valid_kept region files part s =
    both _ _ _ (le-leb (kept_of region files part).blocks 1024 s.small) (le-leb (taken (map (filed region) files)) (kept_of region files part).blocks (omega arith)) (all_quiet region files s.busy)

pub valid_shown : (region : Region) (files : List File) (part : Option Version) (v : Stored) → stored_of region files part ≡ v → IsStore region files part → is_valid v.kept ≡ true
valid_shown region files part v view s = subst (λ (w : Stored). is_valid w.kept ≡ true) view (valid_kept region files part s)

-- no file is longer than its blocks
pub short_file : (region : Region) (files : List File) (part : Option Version) (place : ℕ) (file : File) → IsStore region files part → place < length files → file ≡ get_or files place file
    → length (chain_of region file.chain) ≤ 131072
short_file region files part place file s inside is =
    let some : blocks_for (length (get_or (map (filed region) files) place (filed region file)).octets) ≤ taken (map (filed region) files) =
    get_or-le-sum_by (λ (f : Filed). blocks_for (length f.octets)) (map (filed region) files) place (filed region file) (omega (arith, length-map files (filed region), inside)) in
    let mine : blocks_for (length (chain_of region file.chain)) ≤ taken (map (filed region) files) =
    subst (λ (f : Filed). blocks_for (length f.octets) ≤ taken (map (filed region) files)) (filed_at region files place file inside is) some in
    omega (arith, mine, s.small)

-- a version is begun where none is
pub begin_shown : (old new : Region) (files : List File) (p : Option Version) (part : Version) (v : Stored) → v.part ≡ None → stored_of old files p ≡ v → IsStore old files p
    → Begins old part.chain new → stored_of new files (Some part) ≡ record { kept = v.kept; part = Some (record { name = part.name.items; octets = [] }) }
begin_shown old new files None part v none view s begins =
    begun old new files part s begins ∙ ap (λ (w : Stored). record { kept = w.kept; part = Some (record { name = part.name.items; octets = [] }) }) view
begin_shown old new files (Some other) part v none view s begins = absurd (never (ap (λ (w : Stored). w.part) view ∙ none))
  where
    never : {X : Type 0} {x : X} → Some x ≡ None → ⊥
    never e = absurd (cc)

pub begin_kept : (old new : Region) (files : List File) (p : Option Version) (part : Version) (v : Stored) → v.part ≡ None → stored_of old files p ≡ v → IsStore old files p
    → Begins old part.chain new → is_some (find (is_named part.name.items) v.kept.files) ≡ true → IsStore new files (Some part)
begin_kept old new files None part v none view s begins there =
    let shown : is_some (find (is_named part.name.items) (map (filed old) files)) ≡ true = subst (λ (w : Stored). is_some (find (is_named part.name.items) w.kept.files) ≡ true) (sym view) there in
    begun_kept old new files part s begins (still (find (has_name part.name.items) files) (ap is_some (sym (find_filed old part.name.items files)) ∙ shown))
  where
    still : (o : Option File) → is_some (option_map (filed old) o) ≡ true → is_some o ≡ true
    still None e = absurd (cc)
    still (Some f) e = refl
begin_kept old new files (Some other) part v none view s begins there = absurd (never (ap (λ (w : Stored). w.part) view ∙ none))
  where
    never : {X : Type 0} {x : X} → Some x ≡ None → ⊥
    never e = absurd (cc)

pub begin_full : (region : Region) (files : List File) (p : Option Version) (v : Stored) → v.part ≡ None → stored_of region files p ≡ v → IsStore region files p → AllLive region → ⊥
begin_full region files None v none view s all = not_full region files s all
begin_full region files (Some other) v none view s all = absurd (never (ap (λ (w : Stored). w.part) view ∙ none))
  where
    never : {X : Type 0} {x : X} → Some x ≡ None → ⊥
    never e = absurd (cc)

-- what a look-up says of what a store shows
pub found_shown : (region : Region) (files : List File) (p : Option Version) (name : List ℕ) (place : ℕ) (file : File) (v : Stored) → stored_of region files p ≡ v
    → IsPlaceOf name files place → file ≡ get_or files place file → file_of v.kept name ≡ Some (filed region file)
found_shown region files p name place file v view at is =
    subst (λ (w : Stored). file_of w.kept name ≡ Some (filed region file)) view (file_at region name files place file at is)

pub none_shown : (region : Region) (files : List File) (p : Option Version) (name : List ℕ) (v : Stored) → stored_of region files p ≡ v → find (has_name name) files ≡ None
    → file_of v.kept name ≡ None
none_shown region files p name v view none = subst (λ (w : Stored). file_of w.kept name ≡ None) view (no_file region name files none)

-- a file is added
pub insert_shown : (old begin new : Region) (files after : List File) (part : Option Version) (file : File) (bytes : List ℕ) (v : Stored) → stored_of old files part ≡ v → IsStore old files part
    → Begins old file.chain begin → Appends begin file.chain bytes new → after ≡ files ++ file ∷ []
    → stored_of new after part ≡ record { kept = record { files = v.kept.files ++ (record { spec = file.spec; octets = bytes }) ∷ []; blocks = v.kept.blocks }; part = v.part }
insert_shown old begin new files after part file bytes v view s begins appends is =
    ap (λ fs. stored_of new fs part) is ∙ inserted old begin new files part file bytes s begins appends
    ∙ ap (λ (w : Stored). record { kept = record { files = w.kept.files ++ (record { spec = file.spec; octets = bytes }) ∷ []; blocks = w.kept.blocks }; part = w.part }) view

pub few_files : (region : Region) (files : List File) (part : Option Version) (v : Stored) → stored_of region files part ≡ v → length v.kept.files < 32 → length files < 32
few_files region files part v view few =
    let shown : length (map (filed region) files) < 32 = subst (λ (w : Stored). length w.kept.files < 32) (sym view) few in
    omega (arith, shown, length-map files (filed region))

pub insert_kept : (old begin new : Region) (files after : List File) (part : Option Version) (file : File) (bytes : List ℕ) (v : Stored) → stored_of old files part ≡ v → IsStore old files part
    → Begins old file.chain begin → Appends begin file.chain bytes new → after ≡ files ++ file ∷ [] → length v.kept.files < 32 → file.spec.busy ≤ 15 → IsStore new after part
insert_kept old begin new files after part file bytes v view s begins appends is few quiet =
    subst (λ fs. IsStore new fs part) (sym is) (inserted_kept old begin new files part file bytes s begins appends (few_files old files part v view few) quiet)

pub insert_full : (region : Region) (files : List File) (part : Option Version) (v : Stored) → stored_of region files part ≡ v → IsStore region files part → length v.kept.files < 32 → AllLive region → ⊥
insert_full region files part v view s few all = not_full_any region files part s (few_files region files part v view few) all
