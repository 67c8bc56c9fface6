-- The protocols of a slave stand beside each other over its whole server.
use Rattle.std.proofs.Common.{◌≡◌, ℕ, Bool, true, false, List, [], ◌∷◌, ◌++◌, length, Option, Some, None, Ok, Err, refl, sym, ap, ◌∙◌, subst}
use Rattle.eoe_server.specs.of_mailbox_mail.declared.mail.Kind.{Kind}
use Rattle.slave_model.specs.of_link_mails.Body.{Body}
use Rattle.idn_table.specs.of_exchange_model.Exchange.{given}
use Rattle.idn_table.specs.of_exchange_model.Lifted.{EachOf}
use Rattle.idn_table.specs.of_exchange_model.Refusing.{Refusal, refused_serve, gated}
use Rattle.slave_parts.specs.Whole.{gated_whole}
use Rattle.slave_parts.specs.Sides.{IsWholeSide}
use Rattle.slave_model.specs.Profile.{Protocol, Profile, IsProfile, serves}
use Rattle.slave_model.specs.Application.{Parts, ArePartsLawful, station_valid, station_files}
use Rattle.slave_model.specs.Server.{Server, Seat, seat, reseated, ServiceOf}
use Rattle.slave_model.specs.Product.{served, refusal, side, serve, serve_by, protocol_of, emission}
use Rattle.slave_model.specs.Owning.{same_protocol, is_of, mine}
use Rattle.slave_model.proofs.Stations.{both, left_of, right_of}
use Rattle.slave_model.proofs.Own.{are_own, soe_gives}
use Rattle.slave_parts.specs.FoeServed.{has_its_room}
use Rattle.eoe_server.specs.of_protocol_models.FoeServer.{Transfer, idle, reading, writing, closing}
use Rattle.slave_parts.specs.Served.{core_of, served_whole, side_whole, slave_whole, is_fine, AreFilesServed}

are_same : (i k : Protocol) → same_protocol i k ≡ true → i ≡ k
are_same Protocol.CoE Protocol.CoE e = refl
are_same Protocol.FoE Protocol.FoE e = refl
are_same Protocol.SoE Protocol.SoE e = refl
are_same Protocol.EoE Protocol.EoE e = refl
are_same i k e = absurd (cc)

-- a server that refuses gives the same in whatever state it is
refused_same : {V M Q R : Type 0} (r : Refusal V M Q R) (v w : V) (ms : List M) → given (refused_serve r) v ms ≡ given (refused_serve r) w ms
refused_same r v w [] = refl
refused_same r v w (m ∷ ms) = ap (λ l. r.gives m ++ l) (refused_same r (refused_serve r v m).0 (refused_serve r w m).0 ms)

module _ {T F I : Type 0} (o : Parts T F I) (p : Profile) (al : ℕ) where
  -- served or not, a side takes mails as the one of the exchange does, and its client sends the same
  serve_by_one : (i : Protocol) (b : Bool) → (gated_whole b (served_whole o p al i) (refusal o p al i)).serve ≡ (gated b (served o p al i) (refusal o p al i)).serve
  serve_by_one Protocol.CoE true = refl
  serve_by_one Protocol.FoE true = refl
  serve_by_one Protocol.SoE true = refl
  serve_by_one Protocol.EoE true = refl
  serve_by_one i false = refl

  pub side_serve : (i : Protocol) → (side_whole o p al i).serve ≡ (side o p al i).serve
  side_serve i = serve_by_one i (serves p al i)

  speech_by : (i : Protocol) (b : Bool) → (gated_whole b (served_whole o p al i) (refusal o p al i)).speech ≡ (gated b (served o p al i) (refusal o p al i)).speech
  speech_by Protocol.CoE true = refl
  speech_by Protocol.FoE true = refl
  speech_by Protocol.SoE true = refl
  speech_by Protocol.EoE true = refl
  speech_by Protocol.CoE false = refl
  speech_by Protocol.FoE false = refl
  speech_by Protocol.SoE false = refl
  speech_by Protocol.EoE false = refl

  pub side_speech : (i : Protocol) → (side_whole o p al i).speech ≡ (side o p al i).speech
  side_speech i = speech_by i (serves p al i)

  -- the server of a protocol of which the laws of the exchange speak too: without a join
  abbrev alone : (i : Protocol) → Seat T F I i → Seat T F I i
  alone Protocol.CoE v = v
  alone Protocol.FoE v = v
  alone Protocol.SoE v = record v { join = None }
  alone Protocol.EoE v = v

  alone_ready : (i : Protocol) (b : Bool) (v : Seat T F I i) → (gated_whole b (served_whole o p al i) (refusal o p al i)).ready v ≡ true → (gated b (served o p al i) (refusal o p al i)).ready (alone i v) ≡ true
  alone_ready Protocol.CoE true v e = e
  alone_ready Protocol.CoE false v e = e
  alone_ready Protocol.FoE true v e = left_of (station_valid o v.app) _ e
  alone_ready Protocol.FoE false v e = left_of (station_valid o v.app) _ e
  alone_ready Protocol.SoE true v e = both (station_valid o v.app) true e refl
  alone_ready Protocol.SoE false v e = both (station_valid o v.app) true e refl
  alone_ready Protocol.EoE true v e = e
  alone_ready Protocol.EoE false v e = e

  full_by : (i : Protocol) (b : Bool) (v : Seat T F I i) (q : ServiceOf i) → (gated b (served o p al i) (refusal o p al i)).full (alone i v) q ≡ (gated_whole b (served_whole o p al i) (refusal o p al i)).full v q
  full_by Protocol.CoE true v q = refl
  full_by Protocol.FoE true v q = refl
  full_by Protocol.SoE true v q = refl
  full_by Protocol.EoE true v q = refl
  full_by i false v q = refl

  valid_by : (i : Protocol) (b : Bool) (q : ServiceOf i) → (gated_whole b (served_whole o p al i) (refusal o p al i)).speech.valid q ≡ true → (gated b (served o p al i) (refusal o p al i)).speech.valid q ≡ true
  valid_by i b q e = ap (λ s. s.valid q) (sym (speech_by i b)) ∙ e

  seat_again : (i : Protocol) (j : Server T F I) (v : Seat T F I i) → seat i (reseated i j v) ≡ v
  seat_again Protocol.CoE j v = refl
  seat_again Protocol.FoE j v = refl
  seat_again Protocol.SoE j v = refl
  seat_again Protocol.EoE j v = refl

  seat_own : (i : Protocol) (j : Server T F I) → reseated i j (seat i j) ≡ j
  seat_own Protocol.CoE j = refl
  seat_own Protocol.FoE j = refl
  seat_own Protocol.SoE j = refl
  seat_own Protocol.EoE j = refl

  seat_twice : (i : Protocol) (j : Server T F I) (v w : Seat T F I i) → reseated i (reseated i j v) w ≡ reseated i j w
  seat_twice Protocol.CoE j v w = refl
  seat_twice Protocol.FoE j v w = refl
  seat_twice Protocol.SoE j v w = refl
  seat_twice Protocol.EoE j v w = refl

  seat_core : (i : Protocol) (j : Server T F I) → j.app ≡ core_of T F I i (seat i j)
  seat_core Protocol.CoE j = refl
  seat_core Protocol.FoE j = refl
  seat_core Protocol.SoE j = refl
  seat_core Protocol.EoE j = refl

  handled_by : (i : Protocol) (b : Bool) (j : Server T F I) → j.handled ≡ (gated_whole b (served_whole o p al i) (refusal o p al i)).handled (seat i j)
  handled_by Protocol.CoE true j = refl
  handled_by Protocol.CoE false j = refl
  handled_by Protocol.FoE true j = refl
  handled_by Protocol.FoE false j = refl
  handled_by Protocol.SoE true j = refl
  handled_by Protocol.SoE false j = refl
  handled_by Protocol.EoE true j = refl
  handled_by Protocol.EoE false j = refl

  state_by : (i : Protocol) (j : Server T F I) (b : Body) (kind : Kind) (found : Option Protocol) → is_of i found ≡ true → (serve_by o p al j b kind found).0 ≡ reseated i j ((side_whole o p al i).serve (seat i j) b).0
  state_by i j b kind None e = absurd (cc)
  state_by i j b kind (Some k) e =
      ap (λ n. reseated n j ((side o p al n).serve (seat n j) b).0) (sym (are_same i k e)) ∙ ap (λ f. reseated i j (f (seat i j) b).0) (sym (side_serve i))

  answers_by : (i : Protocol) (j : Server T F I) (b : Body) (kind : Kind) (found : Option Protocol) → is_of i found ≡ true → (serve_by o p al j b kind found).1 ≡ ((side_whole o p al i).serve (seat i j) b).1
  answers_by i j b kind None e = absurd (cc)
  answers_by i j b kind (Some k) e = ap (λ n. ((side o p al n).serve (seat n j) b).1) (sym (are_same i k e)) ∙ ap (λ f. (f (seat i j) b).1) (sym (side_serve i))

  state_is : (i : Protocol) (j : Server T F I) (b : Body) → mine i b ≡ true → (serve o p al j b).0 ≡ reseated i j ((side_whole o p al i).serve (seat i j) b).0
  state_is i j (Ok m) e = state_by i j (Ok m) m.kind (protocol_of m.kind) e
  state_is i j (Err fault) e = absurd (cc)

  answers_are : (i : Protocol) (j : Server T F I) (b : Body) → mine i b ≡ true → (serve o p al j b).1 ≡ ((side_whole o p al i).serve (seat i j) b).1
  answers_are i j (Ok m) e = answers_by i j (Ok m) m.kind (protocol_of m.kind) e
  answers_are i j (Err fault) e = absurd (cc)

-- the room of a file that is kept back is that of the files, in each AL state
pub room_same : {T F I : Type 0} (o : Parts T F I) → AreFilesServed o → (al : ℕ) (s : _) (transfer : Transfer) → has_its_room (station_files o al) s transfer ≡ has_its_room (station_files o 0) s transfer
room_same o files al s idle = refl
room_same o files al s (reading number rest) = refl
room_same o files al s (writing name number got) = refl
room_same o files al s (closing name number got told) = files.room al s.app.files (length got)

module _ {T F I : Type 0} (o : Parts T F I) (law : ArePartsLawful o) (files : AreFilesServed o) (p : Profile) (is : IsProfile p) (al : ℕ) where
  ready_by : (i : Protocol) (b : Bool) (j : Server T F I) → is_fine o p al j ≡ true → (gated_whole b (served_whole o p al i) (refusal o p al i)).ready (seat i j) ≡ true
  ready_by Protocol.CoE true j e = left_of (station_valid o j.app) _ e
  ready_by Protocol.CoE false j e = left_of (station_valid o j.app) _ e
  ready_by Protocol.FoE true j e = both (station_valid o j.app) _ (left_of (station_valid o j.app) _ e) (room_same o files al j.app j.file ∙ right_of (station_valid o j.app) _ e)
  ready_by Protocol.FoE false j e = both (station_valid o j.app) _ (left_of (station_valid o j.app) _ e) (room_same o files al j.app j.file ∙ right_of (station_valid o j.app) _ e)
  ready_by Protocol.SoE true j e = left_of (station_valid o j.app) _ e
  ready_by Protocol.SoE false j e = left_of (station_valid o j.app) _ e
  ready_by Protocol.EoE true j e = left_of (station_valid o j.app) _ e
  ready_by Protocol.EoE false j e = left_of (station_valid o j.app) _ e

  sends : (i : Protocol) (v : Seat T F I i) (q : ServiceOf i) → (side_whole o p al i).ready v ≡ true → (side_whole o p al i).speech.valid q ≡ true → EachOf (λ b. mine i b ≡ true) ((side_whole o p al i).full v q)
  sends i v q ready valid = subst (EachOf (λ b. mine i b ≡ true)) (full_by o p al i (serves p al i) v q)
      ((are_own o law p is al i).sends (alone o p al i v) q (alone_ready o p al i (serves p al i) v ready) (valid_by o p al i (serves p al i) q valid))

  abbrev Told : (i : Protocol) → Bool → Seat T F I i → ServiceOf i → Type 0
  Told i b v q = EachOf (λ g. emission g ≡ (gated_whole b (served_whole o p al i) (refusal o p al i)).speech.emission g)
      (given (gated_whole b (served_whole o p al i) (refusal o p al i)).serve v ((gated_whole b (served_whole o p al i) (refusal o p al i)).full v q))

  abbrev Owned : (i : Protocol) → Bool → Seat T F I i → ServiceOf i → Type 0
  Owned i b v q = EachOf (λ g. emission g ≡ (gated b (served o p al i) (refusal o p al i)).speech.emission g)
      (given (gated b (served o p al i) (refusal o p al i)).serve v ((gated b (served o p al i) (refusal o p al i)).full v q))

  -- of SoE with a join: what a server without one gives is told apart in the same way
  gives_by : (i : Protocol) (b : Bool) (v : Seat T F I i) (q : ServiceOf i) → Owned i b (alone o p al i v) q → Told i b v q
  gives_by Protocol.CoE true v q all = all
  gives_by Protocol.CoE false v q all = all
  gives_by Protocol.FoE true v q all = all
  gives_by Protocol.FoE false v q all = all
  gives_by Protocol.SoE true v q all = soe_gives o p al v ((served o p al Protocol.SoE).full v q)
  gives_by Protocol.SoE false v q all = subst (EachOf (λ g. emission g ≡ (served o p al Protocol.SoE).speech.emission g))
      (refused_same (refusal o p al Protocol.SoE) (alone o p al Protocol.SoE v) v ((refusal o p al Protocol.SoE).asked q)) all
  gives_by Protocol.EoE true v q all = all
  gives_by Protocol.EoE false v q all = all

  gives : (i : Protocol) (v : Seat T F I i) (q : ServiceOf i) → (side_whole o p al i).ready v ≡ true → (side_whole o p al i).speech.valid q ≡ true → Told i (serves p al i) v q
  gives i v q ready valid = gives_by i (serves p al i) v q
      ((are_own o law p is al i).gives (alone o p al i v) q (alone_ready o p al i (serves p al i) v ready) (valid_by o p al i (serves p al i) q valid))

  pub side_of : (i : Protocol) → IsWholeSide (slave_whole o p al) (side_whole o p al i) (core_of T F I i) (seat i) (reseated i)
  side_of i = record {
    core_is = seat_core o p al i;
    handled = handled_by o p al i (serves p al i);
    ready = λ j e. ready_by i (serves p al i) j e;
    again = seat_again o p al i;
    own = seat_own o p al i;
    twice = seat_twice o p al i;
    mine = mine i;
    state = state_is o p al i;
    answers = answers_are o p al i;
    sends = sends i;
    gives = gives i;
  }
