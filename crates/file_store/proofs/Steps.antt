-- What each call of a store leaves.
use Rattle.std.proofs.Common.{◌≡◌, ◌≢◌, ℕ, ◌+◌, ◌<◌, ◌≤◌, Bool, true, false, List, [], ◌∷◌, ◌++◌, length, map, get_or, set, refl, sym, ap, subst, ◌∙◌, arith, Option, Some, None, is_some, unwrap_or, option_map, Result, Ok, Err, OnOk, OnErr}
use Rattle.std.specs.Prelude.{All, find}
use Rattle.std.proofs.lemmas.List.{get_or-set_same, length-set, map-set, length-append, length-map, map-append, set-set}
use Rattle.std.proofs.lemmas.List.Elements.{All-head, All-tail, All-set, All-get_or, All-push, All-nil}
use Rattle.std.proofs.lemmas.List.Folds.{find-append}
use Rattle.std.specs.Option.{option_or}
use Rattle.std.proofs.lemmas.List.Sums.{sum_by-set, sum_by_push}
use Rattle.block_pool.specs.Region.{Region, IsLive, AllLive, Begins, Appends, Closes, chain_of, blocks_for}
use Rattle.file_store.specs.declared.file.File.{File}
use Rattle.file_store.specs.declared.file.Version.{Version}
use Rattle.file_store.specs.Files.{Filed, taken, rewritten, put}
use Rattle.file_store.specs.Stored.{Stored}
use Rattle.file_store.specs.Store.{filed, parted, kept_of, stored_of, part_blocks, one_if, live_count, AreApart, has_name, IsPlaceOf, IsVersion, IsVersionAny, IsStore}
use Rattle.file_store.proofs.Places.{rewritten_at, filed_at}
use Rattle.file_store.proofs.Chains.{at_other, filed_same, live_same, inside_of, count_set, count_all, fresh_other, swapped}

-- a version is dropped
pub dropped : (old new : Region) (files : List File) (part : Version) → IsStore old files (Some part) → Closes old part.chain new
    → stored_of new files None ≡ record { kept = kept_of old files (Some part); part = None }
dropped old new files part s closes =
    let same : map (filed new) files ≡ map (filed old) files = filed_same old new files part.chain None closes.0 s.version.other in
    let sum : taken (map (filed new) files) ≡ taken (map (filed old) files) = ap taken same in
    let blocks : new.free + 0 + taken (map (filed new) files) ≡ old.free + blocks_for (length (chain_of old part.chain)) + taken (map (filed old) files) =
    omega (arith, closes.1, sum) in
    λ i. record { kept = record { files = same i; blocks = blocks i }; part = None }

-- no place is left where only files have chains: that can't be
pub not_full : (region : Region) (files : List File) → IsStore region files None → AllLive region → ⊥
not_full region files s all =
    let count : live_count region.chains ≡ length region.chains = count_all region.chains all in
    omega (arith, count, s.count, s.places, s.few)

-- a version is begun
pub begun : (old new : Region) (files : List File) (part : Version) → IsStore old files None → Begins old part.chain new
    → stored_of new files (Some part) ≡ record { kept = kept_of old files None; part = Some (record { name = part.name.items; octets = [] }) }
begun old new files part s begins =
    let is : new.chains ≡ set old.chains part.chain (Some []) = ap (λ (r : Region). r.chains) begins.2 in
    let other = fresh_other old files part.chain begins.1 s.live in
    let same : map (filed new) files ≡ map (filed old) files = filed_same old new files part.chain (Some []) is other in
    let empty : chain_of new part.chain ≡ [] =
    ap (λ cs. unwrap_or (get_or cs part.chain None) []) is ∙ ap (λ o. unwrap_or o []) (get_or-set_same old.chains part.chain (Some []) None begins.0) in
    let sum : taken (map (filed new) files) ≡ taken (map (filed old) files) = ap taken same in
    let none : blocks_for (length (chain_of new part.chain)) ≡ 0 = ap (λ l. blocks_for (length l)) empty in
    let free : new.free ≡ old.free = ap (λ (r : Region). r.free) begins.2 in
    let blocks : new.free + blocks_for (length (chain_of new part.chain)) + taken (map (filed new) files) ≡ old.free + 0 + taken (map (filed old) files) =
    omega (arith, free, none, sum) in
    λ i. record { kept = record { files = same i; blocks = blocks i }; part = Some (record { name = part.name.items; octets = empty i }) }

pub begun_kept : (old new : Region) (files : List File) (part : Version) → IsStore old files None → Begins old part.chain new
    → is_some (find (has_name part.name.items) files) ≡ true → IsStore new files (Some part)
begun_kept old new files part s begins there =
    let is : new.chains ≡ set old.chains part.chain (Some []) = ap (λ (r : Region). r.chains) begins.2 in
    let other = fresh_other old files part.chain begins.1 s.live in
    let shown : get_or new.chains part.chain None ≡ Some [] = ap (λ cs. get_or cs part.chain None) is ∙ get_or-set_same old.chains part.chain (Some []) None begins.0 in
    let count = count_set old.chains new.chains part.chain (Some []) is begins.0 in
    let before : one_if (is_some (get_or old.chains part.chain None)) ≡ 0 = ap (λ o. one_if (is_some o)) begins.1 in
    let kept = ap (λ (v : Stored). v.kept.blocks) (begun old new files part s begins) in
    record {
      places = ap length is ∙ length-set old.chains part.chain (Some []) ∙ s.places;
      few = s.few;
      live = live_same old new files part.chain (Some []) is other s.live;
      apart = s.apart;
      version = record { live = ap is_some shown; other = other; there = there };
      small = subst (λ n. n ≤ 1024) (sym kept) s.small;
      busy = s.busy;
      count = omega (arith, count, before, s.count);
    }

-- octets are appended to a chain that no file has
appended_files : (old new : Region) (files : List File) (place : ℕ) (bytes : List ℕ) → All (λ (f : File). f.chain ≢ place) files → Appends old place bytes new
    → map (filed new) files ≡ map (filed old) files
appended_files old new files place bytes other appends = filed_same old new files place (Some (chain_of old place ++ bytes)) appends.0 other

pub appended : (old new : Region) (files : List File) (part : Version) (bytes : List ℕ) → IsStore old files (Some part) → Appends old part.chain bytes new
    → stored_of new files (Some part) ≡ record { kept = kept_of old files (Some part); part = Some (record { name = part.name.items; octets = chain_of old part.chain ++ bytes }) }
appended old new files part bytes s appends =
    let same : map (filed new) files ≡ map (filed old) files = appended_files old new files part.chain bytes s.version.other appends in
    let inside = inside_of old.chains part.chain s.version.live in
    let octets : chain_of new part.chain ≡ chain_of old part.chain ++ bytes =
    ap (λ cs. unwrap_or (get_or cs part.chain None) []) appends.0
    ∙ ap (λ o. unwrap_or o []) (get_or-set_same old.chains part.chain (Some (chain_of old part.chain ++ bytes)) None inside) in
    let sum : taken (map (filed new) files) ≡ taken (map (filed old) files) = ap taken same in
    let len : length (chain_of new part.chain) ≡ length (chain_of old part.chain) + length bytes = ap length octets ∙ length-append (chain_of old part.chain) bytes in
    let grown : blocks_for (length (chain_of new part.chain)) ≡ blocks_for (length (chain_of old part.chain) + length bytes) = ap blocks_for len in
    let blocks : new.free + blocks_for (length (chain_of new part.chain)) + taken (map (filed new) files) ≡ old.free + blocks_for (length (chain_of old part.chain)) + taken (map (filed old) files) =
    omega (arith, appends.1, grown, sum) in
    λ i. record { kept = record { files = same i; blocks = blocks i }; part = Some (record { name = part.name.items; octets = octets i }) }

pub appended_any : {E : Type 0} (old new : Region) (files : List File) (part : Version) (bytes : List ℕ) (r : Result (Unit {0}) E) → IsStore old files (Some part) → OnOk r (Appends old part.chain bytes new)
    → OnOk r (stored_of new files (Some part) ≡ record { kept = kept_of old files (Some part); part = Some (record { name = part.name.items; octets = chain_of old part.chain ++ bytes }) })
appended_any old new files part bytes (Ok u) s appends = appended old new files part bytes s appends
appended_any old new files part bytes (Err e) s appends = tt

pub appended_kept : (old new : Region) (files : List File) (part : Version) (bytes : List ℕ) → IsStore old files (Some part) → Appends old part.chain bytes new → IsStore new files (Some part)
appended_kept old new files part bytes s appends =
    let shows = Some (chain_of old part.chain ++ bytes) in
    let inside = inside_of old.chains part.chain s.version.live in
    let shown : get_or new.chains part.chain None ≡ shows = ap (λ cs. get_or cs part.chain None) appends.0 ∙ get_or-set_same old.chains part.chain shows None inside in
    let count = count_set old.chains new.chains part.chain shows appends.0 inside in
    let before : one_if (is_some (get_or old.chains part.chain None)) ≡ 1 = ap one_if s.version.live in
    let kept = ap (λ (v : Stored). v.kept.blocks) (appended old new files part bytes s appends) in
    record {
      places = ap length appends.0 ∙ length-set old.chains part.chain shows ∙ s.places;
      few = s.few;
      live = live_same old new files part.chain shows appends.0 s.version.other s.live;
      apart = s.apart;
      version = record { live = ap is_some shown; other = s.version.other; there = s.version.there };
      small = subst (λ n. n ≤ 1024) (sym kept) s.small;
      busy = s.busy;
      count = omega (arith, count, before, s.count);
    }

pub kept_any : {E : Type 0} (old new : Region) (files : List File) (part : Version) (bytes : List ℕ) (r : Result (Unit {0}) E) → IsStore old files (Some part) → OnOk r (Appends old part.chain bytes new)
    → OnErr r (new ≡ old) → IsStore new files (Some part)
kept_any old new files part bytes (Ok u) s appends same = appended_kept old new files part bytes s appends
kept_any old new files part bytes (Err e) s appends same = subst (λ (r : Region). IsStore r files (Some part)) (sym same) s

-- a version takes the place of its file, whose chain is closed
pub committed : (old new : Region) (files : List File) (part : Version) (place : ℕ) (file : File) → IsStore old files (Some part) → IsPlaceOf part.name.items files place
    → file ≡ get_or files place file → Closes old file.chain new
    → stored_of new (set files place (record { spec = file.spec; chain = part.chain })) None
    ≡ record { kept = put (kept_of old files (Some part)) part.name.items (chain_of old part.chain); part = None }
committed old new files part place file s at is closes =
    let now : File = record { spec = file.spec; chain = part.chain } in
    let after : List File = set files place now in
    let swap = swapped files place file now at.within is s.version.other s.apart in
    let same : map (filed new) after ≡ map (filed old) after = filed_same old new after file.chain None closes.0 swap.1 in
    let moved : map (filed old) after ≡ set (map (filed old) files) place (filed old now) = map-set (filed old) files place now in
    let written : rewritten (map (filed old) files) part.name.items (chain_of old part.chain) ≡ set (map (filed old) files) place (filed old now) =
    rewritten_at old part.name.items (chain_of old part.chain) files place file at.within (at.named file) (at.first file) is in
    let all : map (filed new) after ≡ rewritten (map (filed old) files) part.name.items (chain_of old part.chain) = same ∙ moved ∙ sym written in
    let sum : taken (map (filed new) after) + blocks_for (length (chain_of old file.chain)) ≡ taken (map (filed old) files) + blocks_for (length (chain_of old part.chain)) =
    ap (λ fs. taken fs + blocks_for (length (chain_of old file.chain))) (same ∙ moved)
    ∙ ap (λ (f : Filed). taken (set (map (filed old) files) place (filed old now)) + blocks_for (length f.octets)) (sym (filed_at old files place file at.within is))
    ∙ sum_by-set (λ (f : Filed). blocks_for (length f.octets)) (map (filed old) files) place (filed old now) (filed old file) (omega (arith, length-map files (filed old), at.within)) in
    let blocks : new.free + 0 + taken (map (filed new) after) ≡ old.free + blocks_for (length (chain_of old part.chain)) + taken (map (filed old) files) =
    omega (arith, closes.1, sum) in
    λ i. record { kept = record { files = all i; blocks = blocks i }; part = None }

pub committed_kept : (old new : Region) (files : List File) (part : Version) (place : ℕ) (file : File) → IsStore old files (Some part) → IsPlaceOf part.name.items files place
    → file ≡ get_or files place file → Closes old file.chain new → IsStore new (set files place (record { spec = file.spec; chain = part.chain })) None
committed_kept old new files part place file s at is closes =
    let now : File = record { spec = file.spec; chain = part.chain } in
    let after : List File = set files place now in
    let swap = swapped files place file now at.within is s.version.other s.apart in
    let blocks = ap (λ (v : Stored). v.kept.blocks) (committed old new files part place file s at is closes) in
    let mine : IsLive old file.chain = subst (λ (f : File). IsLive old f.chain) (sym is) (All-get_or (λ (f : File). IsLive old f.chain) files place file at.within s.live) in
    let quiet : file.spec.busy ≤ 15 = subst (λ (f : File). f.spec.busy ≤ 15) (sym is) (All-get_or (λ (f : File). f.spec.busy ≤ 15) files place file at.within s.busy) in
    let count = count_set old.chains new.chains file.chain None closes.0 (inside_of old.chains file.chain mine) in
    let before : one_if (is_some (get_or old.chains file.chain None)) ≡ 1 = ap one_if mine in
    record {
      places = ap length closes.0 ∙ length-set old.chains file.chain None ∙ s.places;
      few = omega (arith, length-set files place now, s.few);
      live = live_same old new after file.chain None closes.0 swap.1 (All-set (λ (f : File). IsLive old f.chain) files place now s.version.live s.live);
      apart = swap.0;
      version = tt;
      small = subst (λ n. n ≤ 1024) (sym blocks) s.small;
      busy = All-set (λ (f : File). f.spec.busy ≤ 15) files place now quiet s.busy;
      count = omega (arith, count, before, s.count, length-set files place now);
    }

-- a file is added

apart_push : (files : List File) (file : File) → AreApart files → All (λ (f : File). f.chain ≢ file.chain) files → AreApart (files ++ file ∷ [])
apart_push [] file apart other = (All-nil (λ (g : File). g.chain ≢ file.chain), tt)
apart_push (f ∷ fs) file apart other =
    let off : f.chain ≢ file.chain = All-head (λ (g : File). g.chain ≢ file.chain) f fs other in (
      All-push (λ (g : File). g.chain ≢ f.chain) fs file apart.0 (λ e. off (sym e)),
      apart_push fs file apart.1 (All-tail (λ (g : File). g.chain ≢ file.chain) f fs other),
    )

-- a version's chain is none that isn't live
apart_from : (region : Region) (files : List File) (part : Version) (place : ℕ) → IsVersion region files part → get_or region.chains place None ≡ None → part.chain ≢ place
apart_from region files part place v empty same =
    let shown : is_some (get_or region.chains place None) ≡ true = subst (λ p. is_some (get_or region.chains p None) ≡ true) same v.live in
    absurd (cc)

part_same : (old new : Region) (files : List File) (part : Option Version) (place : ℕ) (shows : Option (List ℕ)) → IsVersionAny old files part → get_or old.chains place None ≡ None
    → new.chains ≡ set old.chains place shows → (option_map (parted new) part ≡ option_map (parted old) part) × (part_blocks new part ≡ part_blocks old part)
part_same old new files None place shows v empty is = (refl, refl)
part_same old new files (Some part) place shows v empty is =
    let octets : chain_of new part.chain ≡ chain_of old part.chain = ap (λ o. unwrap_or o []) (at_other old.chains new.chains place part.chain shows is (apart_from old files part place v empty)) in
    (λ i. Some (record { name = part.name.items; octets = octets i }), ap (λ l. blocks_for (length l)) octets)

version_push : (old new : Region) (files : List File) (part : Option Version) (file : File) (shows : Option (List ℕ)) → IsVersionAny old files part → get_or old.chains file.chain None ≡ None
    → new.chains ≡ set old.chains file.chain shows → IsVersionAny new (files ++ file ∷ []) part
version_push old new files None file shows v empty is = tt
version_push old new files (Some part) file shows v empty is =
    let off = apart_from old files part file.chain v empty in
    record {
      live = subst (λ o. is_some o ≡ true) (sym (at_other old.chains new.chains file.chain part.chain shows is off)) v.live;
      other = All-push (λ (f : File). f.chain ≢ part.chain) files file v.other (λ e. off (sym e));
      there = ap is_some (find-append (has_name part.name.items) files (file ∷ [])) ∙ still (find (has_name part.name.items) files) (find (has_name part.name.items) (file ∷ [])) v.there;
    }
  where
    still : (a b : Option File) → is_some a ≡ true → is_some (option_or a b) ≡ true
    still None b some = absurd (cc)
    still (Some f) b some = refl

-- the chain of a new file, once its octets are there
filled : (old begin new : Region) (place : ℕ) (bytes : List ℕ) → Begins old place begin → Appends begin place bytes new
    → (new.chains ≡ set old.chains place (Some bytes)) × (new.free + blocks_for (length bytes) ≡ old.free)
filled old begin new place bytes begins appends =
    let is : begin.chains ≡ set old.chains place (Some []) = ap (λ (r : Region). r.chains) begins.2 in
    let empty : chain_of begin place ≡ [] =
    ap (λ cs. unwrap_or (get_or cs place None) []) is ∙ ap (λ o. unwrap_or o []) (get_or-set_same old.chains place (Some []) None begins.0) in
    let free : begin.free ≡ old.free = ap (λ (r : Region). r.free) begins.2 in
    let none : length (chain_of begin place) ≡ 0 = ap length empty in
    let counts : new.free + blocks_for (0 + length bytes) ≡ begin.free + blocks_for 0 = subst (λ n. new.free + blocks_for (n + length bytes) ≡ begin.free + blocks_for n) none appends.1 in (
      appends.0 ∙ ap (λ l. set begin.chains place (Some (l ++ bytes))) empty ∙ ap (λ cs. set cs place (Some bytes)) is ∙ set-set old.chains place (Some []) (Some bytes),
      omega (arith, counts, free),
    )

pub inserted : (old begin new : Region) (files : List File) (part : Option Version) (file : File) (bytes : List ℕ) → IsStore old files part → Begins old file.chain begin → Appends begin file.chain bytes new
    → stored_of new (files ++ file ∷ []) part
    ≡ record { kept = record { files = map (filed old) files ++ (record { spec = file.spec; octets = bytes }) ∷ []; blocks = (kept_of old files part).blocks }; part = option_map (parted old) part }
inserted old begin new files part file bytes s begins appends =
    let fill = filled old begin new file.chain bytes begins appends in
    let other = fresh_other old files file.chain begins.1 s.live in
    let same : map (filed new) files ≡ map (filed old) files = filed_same old new files file.chain (Some bytes) fill.0 other in
    let parts = part_same old new files part file.chain (Some bytes) s.version begins.1 fill.0 in
    let octets : chain_of new file.chain ≡ bytes =
    ap (λ cs. unwrap_or (get_or cs file.chain None) []) fill.0 ∙ ap (λ o. unwrap_or o []) (get_or-set_same old.chains file.chain (Some bytes) None begins.0) in
    let all : map (filed new) (files ++ file ∷ []) ≡ map (filed old) files ++ (record { spec = file.spec; octets = bytes }) ∷ [] =
    map-append (filed new) files (file ∷ []) ∙ (λ i. same i ++ (record { spec = file.spec; octets = octets i }) ∷ []) in
    let sum : taken (map (filed new) (files ++ file ∷ [])) ≡ taken (map (filed old) files) + blocks_for (length bytes) =
    ap taken all ∙ sum_by_push (λ (f : Filed). blocks_for (length f.octets)) (map (filed old) files) (record { spec = file.spec; octets = bytes }) in
    let blocks : new.free + part_blocks new part + taken (map (filed new) (files ++ file ∷ [])) ≡ old.free + part_blocks old part + taken (map (filed old) files) =
    omega (arith, sum, fill.1, parts.1) in
    λ i. record { kept = record { files = all i; blocks = blocks i }; part = parts.0 i }

pub inserted_kept : (old begin new : Region) (files : List File) (part : Option Version) (file : File) (bytes : List ℕ) → IsStore old files part → Begins old file.chain begin → Appends begin file.chain bytes new
    → length files < 32 → file.spec.busy ≤ 15 → IsStore new (files ++ file ∷ []) part
inserted_kept old begin new files part file bytes s begins appends few quiet =
    let fill = filled old begin new file.chain bytes begins appends in
    let other = fresh_other old files file.chain begins.1 s.live in
    let blocks = ap (λ (v : Stored). v.kept.blocks) (inserted old begin new files part file bytes s begins appends) in
    let shown : get_or new.chains file.chain None ≡ Some bytes = ap (λ cs. get_or cs file.chain None) fill.0 ∙ get_or-set_same old.chains file.chain (Some bytes) None begins.0 in
    let count = count_set old.chains new.chains file.chain (Some bytes) fill.0 begins.0 in
    let before : one_if (is_some (get_or old.chains file.chain None)) ≡ 0 = ap (λ o. one_if (is_some o)) begins.1 in
    record {
      places = ap length fill.0 ∙ length-set old.chains file.chain (Some bytes) ∙ s.places;
      few = omega (arith, length-append files (file ∷ []), few);
      live = All-push (λ (f : File). IsLive new f.chain) files file (live_same old new files file.chain (Some bytes) fill.0 other s.live) (ap is_some shown);
      apart = apart_push files file s.apart other;
      version = version_push old new files part file (Some bytes) s.version begins.1 fill.0;
      small = subst (λ n. n ≤ 1024) (sym blocks) s.small;
      busy = All-push (λ (f : File). f.spec.busy ≤ 15) files file s.busy quiet;
      count = omega (arith, count, before, s.count, length-append files (file ∷ []));
    }

-- a place is left for a file more
pub not_full_any : (region : Region) (files : List File) (part : Option Version) → IsStore region files part → length files < 32 → AllLive region → ⊥
not_full_any region files part s few all =
    let count : live_count region.chains ≡ length region.chains = count_all region.chains all in
    omega (arith, count, s.count, s.places, few, at_most (is_some part))
  where
    at_most : (b : Bool) → one_if b ≤ 1
    at_most true = omega arith
    at_most false = omega arith

pub dropped_kept : (old new : Region) (files : List File) (part : Version) → IsStore old files (Some part) → Closes old part.chain new → IsStore new files None
dropped_kept old new files part s closes =
    let count = count_set old.chains new.chains part.chain None closes.0 (inside_of old.chains part.chain s.version.live) in
    let before : one_if (is_some (get_or old.chains part.chain None)) ≡ 1 = ap one_if s.version.live in
    let blocks = ap (λ (v : Stored). v.kept.blocks) (dropped old new files part s closes) in
    record {
      places = ap length closes.0 ∙ length-set old.chains part.chain None ∙ s.places;
      few = s.few;
      live = live_same old new files part.chain None closes.0 s.version.other s.live;
      apart = s.apart;
      version = tt;
      small = subst (λ n. n ≤ 1024) (sym blocks) s.small;
      busy = s.busy;
      count = omega (arith, count, before, s.count);
    }
