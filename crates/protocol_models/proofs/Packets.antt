-- A server that takes the fragments of a packet: nothing happens before the last, and the last one delivers the packet.
use Rattle.std.proofs.Common.{◌≡◌, ℕ, suc, Bool, true, false, List, [], ◌∷◌, ◌++◌, map, Option, None, Some, refl, sym, ap, ◌∙◌, subst, append-nil}
use Rattle.std.specs.Prelude.{if◌then◌else◌}
use Rattle.eoe.specs.declared.message.Fragment.{Fragment}
use Rattle.eoe.specs.declared.joining.Joined.{Joined}
use Rattle.eoe.specs.declared.joining.Joined.TheVariants.{More, Whole, Dropped}
use Rattle.eoe.specs.declared.joining.Unfinished.{Unfinished}
use Rattle.eoe.specs.Joining.{Taken, awaited, ended, finished, added, is_packet, payload_of, taken, taken_by, joins, GivesWhole}
use Rattle.exchange_model.specs.Exchange.{after, given}
use Rattle.protocol_models.specs.EoeMails.{EoeMail, part}
use Rattle.protocol_models.specs.Network.{Network, Station}
use Rattle.protocol_models.specs.EoeServer.{Server, delivered, joined, behind, serve}

abbrev is_more : Joined → Bool
is_more More = true
is_more (Whole p) = false
is_more Dropped = false

abbrev is_whole : Joined → Bool
is_whole More = false
is_whole (Whole p) = true
is_whole Dropped = false

-- behind the last fragment of a packet nothing more is awaited
finished_ends : (u : Unfinished) → is_more (finished u) ≡ false
finished_ends u = by (is_packet u)
  where
    by : (b : Bool) → is_more (if b then Whole u.octets else Dropped) ≡ false
    by true = refl
    by false = refl

ended_ends : (u : Unfinished) (bytes : Option (List ℕ)) → is_more (ended u bytes) ≡ false
ended_ends u None = refl
ended_ends u (Some bytes) = finished_ends (added u bytes)

more_if : (f : Fragment) (u : Unfinished) (last : Bool) → is_more (if last then ended u (payload_of f) else More) ≡ true → last ≡ false
more_if f u true e = absurd (let ends = ended_ends u (payload_of f) in cc)
more_if f u false e = refl

whole_if : (j : Joined) (last : Bool) → is_whole (if last then j else More) ≡ true → last ≡ true
whole_if j true e = refl
whole_if j false e = absurd (cc)

-- the taking as a choice
abbrev chosen : Fragment → Unfinished → Bool → Taken
chosen f u last = if last then record { unfinished = None; joined = ended u (payload_of f) } else record { unfinished = Some (added u f.bytes.items); joined = More }

chosen_joined : (f : Fragment) (u : Unfinished) (last : Bool) → (chosen f u last).joined ≡ (if last then ended u (payload_of f) else More)
chosen_joined f u true = refl
chosen_joined f u false = refl

by_last : (f : Fragment) (u : Unfinished) → (taken_by f (Some u)).joined ≡ (if f.last then ended u (payload_of f) else More)
by_last f u = chosen_joined f u f.last

more_by : (f : Fragment) (before : Option Unfinished) → is_more (taken_by f before).joined ≡ true → f.last ≡ false
more_by f None e = absurd (cc)
more_by f (Some u) e = more_if f u f.last (ap is_more (sym (by_last f u)) ∙ e)

whole_by : (f : Fragment) (before : Option Unfinished) → is_whole (taken_by f before).joined ≡ true → f.last ≡ true
whole_by f None e = absurd (cc)
whole_by f (Some u) e = whole_if (ended u (payload_of f)) f.last (ap is_whole (sym (by_last f u)) ∙ e)

module _ {S : Type 0} (o : Network S) (room : ℕ) where
  -- mails without effect
  pub record Idle (v : Server S) (ms : List EoeMail) : Type 0 where
    pub station : (after (serve o room) v ms).station ≡ v.station
    pub handled : (after (serve o room) v ms).handled ≡ v.handled
    pub given : given (serve o room) v ms ≡ []

  -- mails that carry out one service, all of them and no fewer: the station behind them, and what the server gives
  pub record Carried (v : Server S) (ms : List EoeMail) (left : Station S) (gives : List EoeMail) : Type 0 where
    pub station : (after (serve o room) v ms).station ≡ left
    pub handled : (after (serve o room) v ms).handled ≡ suc v.handled
    pub given : given (serve o room) v ms ≡ gives
    pub late : (p : List EoeMail) (h : EoeMail) (r : List EoeMail) → ms ≡ p ++ h ∷ r → Idle v p

  pub idle_none : (v : Server S) → Idle v []
  idle_none v = record { station = refl; handled = refl; given = refl }

  -- one mail that carries out a service
  pub carried_one : (v w : Server S) (m : EoeMail) (gives : List EoeMail) → serve o room v m ≡ (w, gives) → w.handled ≡ suc v.handled → Carried v (m ∷ []) w.station gives
  carried_one v w m gives one counts = record {
    station = ap (λ y. y.0.station) one;
    handled = ap (λ y. y.0.handled) one ∙ counts;
    given = ap (λ y. y.1 ++ []) one ∙ append-nil gives;
    late = early;
  }
    where
      early : (p : List EoeMail) (h : EoeMail) (r : List EoeMail) → m ∷ [] ≡ p ++ h ∷ r → Idle v p
      early [] h r e = idle_none v
      early (k ∷ []) h r e = absurd (cc)
      early (k ∷ l ∷ p) h r e = absurd (cc)

  behind_joined : (v : Server S) (f : Fragment) (last : Bool) (j : Joined) → f.last ≡ last → (taken v.unfinished f).joined ≡ j →
      serve o room v (part f) ≡ behind v.handled (joined o room v.station last (taken v.unfinished f).unfinished j)
  behind_joined v f last j is came =
      ap (λ b. behind v.handled (joined o room v.station b (taken v.unfinished f).unfinished (taken v.unfinished f).joined)) is
      ∙ ap (λ x. behind v.handled (joined o room v.station last (taken v.unfinished f).unfinished x)) came

  -- the server behind a fragment that isn't the last of its packet
  abbrev waiting : Server S → Fragment → Server S
  waiting v f = record v { unfinished = (taken v.unfinished f).unfinished }

  idle_more : (v w : Server S) (m : EoeMail) (p : List EoeMail) → serve o room v m ≡ (w, []) → w.station ≡ v.station → w.handled ≡ v.handled → Idle w p → Idle v (m ∷ p)
  idle_more v w m p one same count rest = record {
    station = ap (λ y. (after (serve o room) y.0 p).station) one ∙ rest.station ∙ same;
    handled = ap (λ y. (after (serve o room) y.0 p).handled) one ∙ rest.handled ∙ count;
    given = ap (λ y. y.1 ++ given (serve o room) y.0 p) one ∙ rest.given;
  }

  early_more : (v w : Server S) (m : EoeMail) (ms : List EoeMail) → serve o room v m ≡ (w, []) → w.station ≡ v.station → w.handled ≡ v.handled →
      ((p : List EoeMail) (h : EoeMail) (r : List EoeMail) → ms ≡ p ++ h ∷ r → Idle w p) → (p : List EoeMail) (h : EoeMail) (r : List EoeMail) → m ∷ ms ≡ p ++ h ∷ r → Idle v p
  early_more v w m ms one same count late [] h r e = idle_none v
  early_more v w m ms one same count late (k ∷ p) h r e =
      let first : m ≡ k = cc in
      let rest : ms ≡ p ++ h ∷ r = cc in
      subst (λ k. Idle v (k ∷ p)) first (idle_more v w m p one same count (late p h r rest))

  carried_more : (v w : Server S) (m : EoeMail) (ms : List EoeMail) (station : Station S) (gives : List EoeMail) → serve o room v m ≡ (w, []) →
      w.station ≡ v.station → w.handled ≡ v.handled → Carried w ms station gives → Carried v (m ∷ ms) station gives
  carried_more v w m ms station gives one same count rest = record {
    station = ap (λ y. (after (serve o room) y.0 ms).station) one ∙ rest.station;
    handled = ap (λ y. (after (serve o room) y.0 ms).handled) one ∙ rest.handled ∙ ap suc count;
    given = ap (λ y. y.1 ++ given (serve o room) y.0 ms) one ∙ rest.given;
    late = early_more v w m ms one same count rest.late;
  }

  -- the fragments of a packet deliver it
  abbrev Delivers : Server S → List ℕ → List Fragment → Type 0
  Delivers v octets fs = Carried v (map part fs) (delivered o room v.station octets).0 (delivered o room v.station octets).1

  delivers_by : (v : Server S) (octets : List ℕ) (f : Fragment) (fs : List Fragment) (j : Joined) → (taken v.unfinished f).joined ≡ j →
      GivesWhole octets (j ∷ joins (taken v.unfinished f).unfinished fs) →
      ((w : Server S) → GivesWhole octets (joins w.unfinished fs) → Delivers w octets fs) → Delivers v octets (f ∷ fs)
  delivers_by v octets f fs More came whole rest =
      carried_more v (waiting v f) (part f) (map part fs) _ _ (behind_joined v f false More (more_by f (awaited v.unfinished f) (ap is_more came)) came) refl refl (rest (waiting v f) whole)
  delivers_by v octets f [] (Whole p) came whole rest =
      let w = behind v.handled (joined o room v.station true (taken v.unfinished f).unfinished (Whole p)) in
      subst (λ x. Carried v (part f ∷ []) (delivered o room v.station x).0 (delivered o room v.station x).1) whole
      (carried_one v w.0 (part f) w.1 (behind_joined v f true (Whole p) (whole_by f (awaited v.unfinished f) (ap is_whole came)) came) refl)
  delivers_by v octets f (g ∷ fs) (Whole p) came whole rest = absurd whole
  delivers_by v octets f fs Dropped came whole rest = absurd whole

  pub delivers : (v : Server S) (octets : List ℕ) (fs : List Fragment) → GivesWhole octets (joins v.unfinished fs) → Delivers v octets fs
  delivers v octets [] whole = absurd whole
  delivers v octets (f ∷ fs) whole = delivers_by v octets f fs (taken v.unfinished f).joined refl whole (λ w. delivers w octets fs)
