-- What each protocol sees of a station keeps its laws.
use Rattle.std.proofs.Common.{◌≡◌, ℕ, zero, suc, ◌+◌, ◌-◌, ◌*◌, ◌/◌, ◌%◌, ◌≤◌, ◌==◌, ◌&&◌, nat_lt, Bool, true, false, List, [], ◌∷◌, ◌++◌, map, length, take, drop, Some, None, Result, Ok, Err, refl, sym, ap, ◌∙◌, subst, arith, lt-ltb, le-leb, leb-true, length-append, length-drop}
use Rattle.std.specs.Prelude.{if◌then◌else◌}
use Rattle.protocol_models.specs.of_eoe.declared.message.Eoe.TheVariants.{Fragment as Part}
use Rattle.protocol_models.specs.of_eoe.declared.message.Fragment.{Fragment}
use Rattle.protocol_models.specs.of_eoe.Message.{eoe_text}
use Rattle.protocol_models.specs.of_eoe.Cutting.{fragments_of}
use Rattle.protocol_models.specs.of_exchange_model.Lifted.{EachOf}
use Rattle.protocol_models.specs.Tables as Tables
use Rattle.protocol_models.specs.CoeOctets as CoeOctets
use Rattle.protocol_models.specs.CoeOctets.{is_fragment}
use Rattle.protocol_models.specs.Files as Files
use Rattle.protocol_models.specs.Elements as Elements
use Rattle.protocol_models.specs.Network as Network
use Rattle.protocol_models.specs.Network.{Station}
use Rattle.slave_model.specs.Profile.{Profile, IsProfile}
use Rattle.slave_model.specs.Application.{Core, Parts, ArePartsLawful, core_valid, station_valid, with_objects, stored, station_tables, station_files, written, station_elements, network}
use Rattle.protocol_models.specs.Echo.{is_echo}

pub both : (a b : Bool) → a ≡ true → b ≡ true → (a && b) ≡ true
both a b e f = rw (e, f) refl

pub left_of : (a b : Bool) → (a && b) ≡ true → a ≡ true
left_of true b e = refl
left_of false b e = absurd (cc)

pub right_of : (a b : Bool) → (a && b) ≡ true → b ≡ true
right_of true b e = e
right_of false b e = absurd (cc)

take_few : (n : ℕ) (l : List ℕ) → length (take n l) ≤ n
take_few zero l = omega arith
take_few (suc n) [] = omega arith
take_few (suc n) (x ∷ l) = omega (arith, take_few n l)

-- the body of a fragment is told by its first octet
nibble : (last stamped : Bool) → ((if last then 256 else 0) + (if stamped then 512 else 0)) % 256 % 16 == 0 ≡ true
nibble true true = refl
nibble true false = refl
nibble false true = refl
nibble false false = refl

pub fragment_told : (f : Fragment) → is_fragment (eoe_text (Part f)) ≡ true
fragment_told f = both _ _ (le-leb 4 (length (eoe_text (Part f))) (omega arith)) (nibble f.last f.stamped)

all_told : (fs : List Fragment) → EachOf (λ body. is_fragment body ≡ true) (map (λ (f : Fragment). eoe_text (Part f)) fs)
all_told [] = tt
all_told (f ∷ fs) = (fragment_told f, all_told fs)

module _ {T F I : Type 0} (o : Parts T F I) (law : ArePartsLawful o) where
  objects_valid : (al : ℕ) (s : Station (Core T F I)) → station_valid o s ≡ true → (o.tables al).valid s.app.objects ≡ true
  objects_valid al s e = law.tables_one al s.app.objects ∙ left_of _ _ (left_of _ _ e)

  files_valid : (al : ℕ) (s : Station (Core T F I)) → station_valid o s ≡ true → (o.files al).valid s.app.files ≡ true
  files_valid al s e = law.files_one al s.app.files ∙ left_of _ _ (right_of ((o.tables 0).valid s.app.objects) _ (left_of _ _ e))

  idns_valid : (s : Station (Core T F I)) → station_valid o s ≡ true → o.elements.valid s.app.idns ≡ true
  idns_valid s e = right_of ((o.files 0).valid s.app.files) _ (right_of ((o.tables 0).valid s.app.objects) _ (left_of _ _ e))

  frame_valid : (s : Station (Core T F I)) → station_valid o s ≡ true → nat_lt s.frame 16 ≡ true
  frame_valid s e = right_of (core_valid o s.app) _ e

  -- a download is stored where the objects store it, and the rest stays
  stored_is : (al : ℕ) (s changed : Station (Core T F I)) (r : Result T ℕ) → station_valid o s ≡ true → stored s r ≡ Ok changed → ((t : T) → r ≡ Ok t → (o.tables al).valid t ≡ true) → station_valid o changed ≡ true
  stored_is al s changed (Ok objects) e is valid =
      let same : with_objects s objects ≡ changed = cc in
      subst (λ c. station_valid o c ≡ true) same (both _ _ (both _ _ (sym (law.tables_one al objects) ∙ valid objects refl)
      (both _ _ (sym (law.files_one 0 s.app.files) ∙ files_valid 0 s e) (idns_valid s e))) (frame_valid s e))
  stored_is al s changed (Err code) e is valid = absurd (cc)

  stored_ok : (s changed : Station (Core T F I)) (r : Result T ℕ) → stored s r ≡ Ok changed → (t : T) × (r ≡ Ok t)
  stored_ok s changed (Ok objects) is = (objects, refl)
  stored_ok s changed (Err code) is = absurd (cc)

  stored_err : (s : Station (Core T F I)) (r : Result T ℕ) (code : ℕ) → stored s r ≡ Err code → r ≡ Err code
  stored_err s (Ok objects) code is = absurd (cc)
  stored_err s (Err own) code is = let same : own ≡ code = cc in ap (λ (c : ℕ). Err c) same

  pub tables_law : (room al : ℕ) → Tables.AreLawful (station_tables o room al)
  tables_law room al = record {
    early = λ s t bytes code e check. ap (stored s) ((law.tables al).early s.app.objects t bytes code (objects_valid al s e) check);
    short = λ s t bytes e is. (law.tables al).short s.app.objects t bytes (objects_valid al s e) is;
    short_info = λ s a bytes e is. (law.tables al).short_info s.app.objects a bytes (objects_valid al s e) is;
    stays = λ s changed t bytes e is. stored_is al s changed ((o.tables al).download s.app.objects t bytes) e is
        (λ objects there. (law.tables al).stays s.app.objects objects t bytes (objects_valid al s e) there);
    stays_cut = λ s octets e. both (core_valid o s.app) _ (left_of _ _ e) (lt-ltb _ 16 (omega arith));
  }

  pub tables_spelled : (room al : ℕ) → CoeOctets.AreSpelled (station_tables o room al)
  tables_spelled room al = record {
    check_code = λ s t size code e is. (law.tables_spelled al).check_code s.app.objects t size code (objects_valid al s e) is;
    download_code = λ s t bytes code e is. (law.tables_spelled al).download_code s.app.objects t bytes code (objects_valid al s e) (stored_err s ((o.tables al).download s.app.objects t bytes) code is);
    upload_code = λ s t code e is. (law.tables_spelled al).upload_code s.app.objects t code (objects_valid al s e) is;
    info_code = λ s a code e is. (law.tables_spelled al).info_code s.app.objects a code (objects_valid al s e) is;
    cut = λ s octets. all_told (fragments_of octets (32 * ((room - 10) / 32)) s.frame);
    eight = λ s changed eoe t bytes octets e is emits.
        let there = stored_ok s changed ((o.tables al).download s.app.objects t bytes) is in
        (law.tables_spelled al).eight s.app.objects there.0 eoe t bytes octets (objects_valid al s e) there.1 emits;
  }

  pub files_law : (al : ℕ) → Files.AreLawful (station_files o al)
  files_law al = record {
    less = λ s few more le is. (law.files al).less s.app.files few more le is;
    short = λ s name pass e is. (law.files al).short s.app.files name pass (files_valid al s e) is;
    stays = λ s name bytes pass e is room. both _ _ (both _ _ (left_of _ _ (left_of _ _ e))
        (both _ _ (sym (law.files_one al _) ∙ (law.files al).stays s.app.files name bytes pass (files_valid al s e) is room) (idns_valid s e))) (frame_valid s e);
  }

  pub files_spelled : (al : ℕ) → Files.AreSpelled (station_files o al)
  files_spelled al = record {
    code = λ s name pass write code e is. (law.files_spelled al).code s.app.files name pass write code (files_valid al s e) is;
    busy = λ s name e. (law.files_spelled al).busy s.app.files name (files_valid al s e);
  }

  written_is : (s changed : Station (Core T F I)) (r : Result I ℕ) → station_valid o s ≡ true → written s r ≡ Ok changed → ((i : I) → r ≡ Ok i → o.elements.valid i ≡ true) → station_valid o changed ≡ true
  written_is s changed (Ok idns) e is valid =
      let same : record s { app = record s.app { idns = idns } } ≡ changed = cc in
      subst (λ c. station_valid o c ≡ true) same (both _ _ (both _ _ (left_of _ _ (left_of _ _ e))
      (both _ _ (sym (law.files_one 0 s.app.files) ∙ files_valid 0 s e) (valid idns refl))) (frame_valid s e))
  written_is s changed (Err code) e is valid = absurd (cc)

  written_err : (s : Station (Core T F I)) (r : Result I ℕ) (code : ℕ) → written s r ≡ Err code → r ≡ Err code
  written_err s (Ok idns) code is = absurd (cc)
  written_err s (Err own) code is = let same : own ≡ code = cc in ap (λ (c : ℕ). Err c) same

  pub elements_law : Elements.AreLawful (station_elements o)
  elements_law = record {
    short = λ s t bytes e is. law.elements.short s.app.idns t bytes (idns_valid s e) is;
    read_code = λ s t code e is. law.elements.read_code s.app.idns t code (idns_valid s e) is;
    write_code = λ s t bytes code e is. law.elements.write_code s.app.idns t bytes code (idns_valid s e) (written_err s (o.elements.write s.app.idns t bytes) code is);
    stays = λ s changed t bytes e is. written_is s changed (o.elements.write s.app.idns t bytes) e is
        (λ idns there. law.elements.stays s.app.idns idns t bytes (idns_valid s e) there);
  }

  set_is : (c changed : Core T F I) (block : List ℕ) (fixed : Bool) → core_valid o c ≡ true → (if fixed then None else Some (record c { block = block })) ≡ Some changed → core_valid o changed ≡ true
  set_is c changed block true e is = absurd (cc)
  set_is c changed block false e is = let same : record c { block = block } ≡ changed = cc in subst (λ k. core_valid o k ≡ true) same e

  pub network_sound : (p : Profile) → Network.IsSound (network o p)
  network_sound p = record {
    packet = λ c octets e. e;
    set_ip = λ c changed block e is. set_is c changed block p.fixed_ip e is;
  }

  echo_short : (mac octets sent : List ℕ) (is : Bool) → length mac ≡ 6 → (is ≡ true → length octets ≤ 1514) → (if is then Some (take 6 (drop 6 octets) ++ (mac ++ 0x88 ∷ 0xB6 ∷ drop 14 octets)) else None) ≡ Some sent → length sent ≤ 1514
  echo_short mac octets sent true six short e =
      let same : take 6 (drop 6 octets) ++ (mac ++ 0x88 ∷ 0xB6 ∷ drop 14 octets) ≡ sent = cc in
      let few = short refl in
      omega (arith, few, six, ap length same, length-append (take 6 (drop 6 octets)) (mac ++ 0x88 ∷ 0xB6 ∷ drop 14 octets), length-append mac (0x88 ∷ 0xB6 ∷ drop 14 octets), length-drop 14 octets, take_few 6 (drop 6 octets))
  echo_short mac octets sent false six short e = absurd (cc)

  pub network_spelled : (p : Profile) → IsProfile p → Network.IsSpelled (network o p)
  network_spelled p is = record {
    sent = λ c octets sent e there. echo_short p.mac octets sent (is_echo p.mac octets) is.mac (λ echo. leb-true _ _ (left_of _ _ echo)) there;
  }
