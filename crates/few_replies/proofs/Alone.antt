-- A service takes as many mails of a slave with an unfinished join of SoE as of one without.
use Rattle.std.proofs.Common.{◌≡◌, ℕ, ◌+◌, Bool, true, false, List, [], ◌∷◌, ◌++◌, map, take, length, None, Result, Ok, Err, refl, sym, ap, ◌∙◌, arith, length-append}
use Rattle.std.proofs.lemmas.List.{length-map}
use Rattle.slave_parts.specs.of_exchange_model.Areas.{Areas, AreMailboxes}
use Rattle.slave_parts.specs.of_exchange_model.Exchange.{given}
use Rattle.slave_parts.specs.of_exchange_model.Lifted.{EachOf, ReadsBack, lifted_serve}
use Rattle.slave_parts.specs.of_exchange_model.Refusing.{Refusal, refused_serve, gated}
use Rattle.slave_parts.specs.of_protocol_models.SoeClient.{Service, read, write, mails_of}
use Rattle.slave_parts.specs.of_protocol_models.Elements.{Target, Elements, AreLawful}
use Rattle.slave_parts.specs.of_protocol_models.SoeMails as SoeMails
use Rattle.slave_parts.specs.of_protocol_models.SoeOctets as SoeOctets
use Rattle.slave_parts.specs.of_protocol_models.SoeServer as Soe
use Rattle.slave_parts.proofs.of_protocol_models.SoeCarries.{answer_to}
use Rattle.slave_parts.specs.SoeServed.{ahead_of, soe_served}
use Rattle.slave_parts.proofs.ServedLaw.{kept}
use Rattle.slave_parts.specs.Whole.{gated_whole}
use Rattle.slave_parts.proofs.JoinedLaw.{given_whole}
use Rattle.slave_parts.specs.of_state_model.Families.{InState}
use Rattle.slave_parts.proofs.of_state_model.FamilyLaw.{given_in}
use Rattle.few_replies.specs.Counts.{mails_between}
use Rattle.slave_parts.specs.of_slave_model.Application.{Parts, ArePartsLawful, station_valid, station_files, station_elements}
use Rattle.slave_parts.specs.of_slave_model.Product.{served, refusal, serve, protocols, product}
use Rattle.slave_parts.specs.of_slave_model.Profile.{Protocol, Profile, IsProfile, serves, areas_of}
use Rattle.slave_parts.specs.of_slave_model.Server.{Server, seat, reseated, ServiceOf, heard_by, told_by}
use Rattle.slave_parts.proofs.of_slave_model.Sides.{sized, told_spells}
use Rattle.slave_parts.proofs.of_slave_model.Stations.{left_of, elements_law}
use Rattle.slave_parts.specs.FoeServed.{has_its_room}
use Rattle.slave_parts.specs.Served.{core_of, served_whole, side_whole, is_fine, slave_whole, protocols_whole, product_whole, AreFilesServed}
use Rattle.slave_parts.proofs.Sides.{side_of}
use Rattle.slave_parts.proofs.SlaveLaw.{client}
use Rattle.slave_parts.proofs.SoeSpelled.{served_spells}

-- what is written and read back is served in as many mails
written_many : {V M N : Type 0} (serve : V → M → V × List M) (hears : N → M) (tells : M → N) (v : V) (ms : List M) → EachOf (ReadsBack hears tells) ms → length (given (lifted_serve serve hears tells) v (map tells ms)) ≡ length (given serve v ms)
written_many serve hears tells v [] back = refl
written_many serve hears tells v (m ∷ ms) back =
    let w = (serve v m).0 in
    let rest = given (lifted_serve serve hears tells) w (map tells ms) in
    let first = ap length (ap (λ k. map tells (serve v k).1 ++ given (lifted_serve serve hears tells) (serve v k).0 (map tells ms)) back.0) in
    omega (arith, first, length-append (map tells (serve v m).1) rest, length-map (serve v m).1 tells, length-append (serve v m).1 (given serve w ms), written_many serve hears tells w ms back.1)

-- who refuses gives the same in whatever state
refused_same : {V M Q R : Type 0} (r : Refusal V M Q R) (v w : V) (ms : List M) → given (refused_serve r) v ms ≡ given (refused_serve r) w ms
refused_same r v w [] = refl
refused_same r v w (m ∷ ms) = ap (λ l. r.gives m ++ l) (refused_same r (refused_serve r v m).0 (refused_serve r w m).0 ms)

module _ {S : Type 0} (o : Elements S) (lawful : AreLawful o) (areas : Areas) (box : AreMailboxes areas) where
  one_answer : (t : Target) (r : Result S ℕ) → length (answer_to t r) ≡ 1
  one_answer t (Ok changed) = refl
  one_answer t (Err code) = refl

  write_many : (v : Soe.Server S) (t : Target) (bytes : List ℕ) → length (given (Soe.serve o areas.back) v (mails_of areas.out (write t bytes))) ≡ 1
  write_many v t bytes =
      let all : given (Soe.serve o areas.back) v (mails_of areas.out (write t bytes)) ≡ answer_to t (o.write v.app t (take Soe.most (ahead_of v.join t ++ bytes))) = (kept o lawful areas box v (write t bytes)).given in
      ap length all ∙ one_answer t (o.write v.app t (take Soe.most (ahead_of v.join t ++ bytes)))

  -- a read is answered alike, and a write by one mail
  soe_many : (v : Soe.Server S) (q : Service) → length (given (Soe.serve o areas.back) v (mails_of areas.out q)) ≡ length (given (Soe.serve o areas.back) (record v { join = None }) (mails_of areas.out q))
  soe_many v (read t) = ap length ((kept o lawful areas box v (read t)).given ∙ sym (kept o lawful areas box (record v { join = None }) (read t)).given)
  soe_many v (write t bytes) = write_many v t bytes ∙ sym (write_many (record v { join = None }) t bytes)

-- the same slave without a join
abbrev pub alone : {T F I : Type 0} → Server T F I → Server T F I
alone j = record j { join = None }

module _ {T F I : Type 0} (o : Parts T F I) (law : ArePartsLawful o) (p : Profile) (is : IsProfile p) (al : ℕ) where
  full_one : (i : Protocol) (on : Bool) (j : Server T F I) (q : ServiceOf i) → (gated on (served o p al i) (refusal o p al i)).full (seat i (alone j)) q ≡ (gated_whole on (served_whole o p al i) (refusal o p al i)).full (seat i j) q
  full_one Protocol.CoE true j q = refl
  full_one Protocol.FoE true j q = refl
  full_one Protocol.SoE true j q = refl
  full_one Protocol.EoE true j q = refl
  full_one i false j q = refl

  abbrev Many : (i : Protocol) → Bool → Server T F I → Server T F I → ServiceOf i → ℕ
  Many i on j k q = length (given (gated_whole on (served_whole o p al i) (refusal o p al i)).serve (seat i k) ((gated_whole on (served_whole o p al i) (refusal o p al i)).full (seat i j) q))

  join_many : (on : Bool) (j : Server T F I) (q : Service) → station_valid o j.app ≡ true → (gated_whole on (served_whole o p al Protocol.SoE) (refusal o p al Protocol.SoE)).speech.valid q ≡ true →
      Many Protocol.SoE on j j q ≡ Many Protocol.SoE on j (alone j) q
  join_many true j q fine valid =
      let elements = station_elements o in
      let heard = heard_by SoeOctets.soe_mail_heard (SoeMails.other []) in
      let told = told_by SoeOctets.soe_mail_written in
      let spells = told_spells (soe_served elements (areas_of p)) SoeOctets.soe_mail_heard SoeOctets.soe_mail_written (SoeMails.other []) (served_spells elements (elements_law o law) (areas_of p) (sized o law p is al)) in
      let back = spells.told (seat Protocol.SoE j) q fine valid in
      let ms = mails_of p.out q in
      written_many (Soe.serve elements p.back) heard told (seat Protocol.SoE j) ms back
      ∙ soe_many elements (elements_law o law) (areas_of p) (sized o law p is al) (seat Protocol.SoE j) q
      ∙ sym (written_many (Soe.serve elements p.back) heard told (seat Protocol.SoE (alone j)) ms back)
  join_many false j q fine valid = ap length (refused_same (refusal o p al Protocol.SoE) (seat Protocol.SoE j) (seat Protocol.SoE (alone j)) ((refusal o p al Protocol.SoE).asked q))

  gave_many : (i : Protocol) (on : Bool) (j : Server T F I) (q : ServiceOf i) → station_valid o j.app ≡ true → (gated_whole on (served_whole o p al i) (refusal o p al i)).speech.valid q ≡ true → Many i on j j q ≡ Many i on j (alone j) q
  gave_many Protocol.CoE on j q fine valid = refl
  gave_many Protocol.FoE on j q fine valid = refl
  gave_many Protocol.SoE on j q fine valid = join_many on j q fine valid
  gave_many Protocol.EoE on j q fine valid = refl

  module _ (files : AreFilesServed o) where
    as_many : (j : Server T F I) (q : (i : Protocol) × ServiceOf i) → is_fine o p al j ≡ true → (protocols_whole o p al).speech.valid q ≡ true → mails_between (protocols_whole o p al) j q ≡ mails_between (protocols o p al) (alone j) q
    as_many j q ready valid =
        let side = side_of o law files p is al q.0 in
        let x = side_whole o p al q.0 in
        let ms = x.full (seat q.0 j) q.1 in
        let mine = side.sends (seat q.0 j) q.1 (side.ready j ready) valid in
        let seated = λ (k : Server T F I). ap length (given_whole (slave_whole o p al) x (core_of T F I q.0) (seat q.0) (reseated q.0) side k ms mine) in
        let many = gave_many q.0 (serves p al q.0) j q.1 (left_of (station_valid o j.app) (has_its_room (station_files o 0) j.app j.file) ready) valid in
        let same = full_one q.0 (serves p al q.0) j q.1 in
        ap (λ n. length ms + n) (seated j ∙ many ∙ sym (seated (alone j))) ∙ sym (ap (λ l. length l + length (given (serve o p al) (alone j) l)) same)

-- in its AL state
pub product_many : {T F I : Type 0} (o : Parts T F I) (law : ArePartsLawful o) (files : AreFilesServed o) (p : Profile) (is : IsProfile p) (v : InState (Server T F I)) (q : (i : Protocol) × ServiceOf i) → (product_whole o p).ready v ≡ true →
    (product_whole o p).speech.valid q ≡ true → mails_between (product_whole o p) v q ≡ mails_between (product o p) (record v { inner = alone v.inner }) q
product_many o law files p is v q ready valid =
    let al = v.state in
    let there : (protocols_whole o p al).speech.valid q ≡ true = (client o law files p is).valid al q ∙ valid in
    let ms = (protocols_whole o p al).full v.inner q in
    let ns = (protocols o p al).full (alone v.inner) q in
    ap (λ l. length ms + length l) (given_in (protocols_whole o p) v ms)
    ∙ as_many o law p is al files v.inner q ready there
    ∙ sym (ap (λ l. length ns + length l) (given_in (protocols o p) (record v { inner = alone v.inner }) ns))
