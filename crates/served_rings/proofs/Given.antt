-- THE ROWS OF MAILS THAT WERE PASSED ON, at the places of these mails among those that came to their server.
use Rattle.std.proofs.Common.{◌≡◌, ℕ, zero, suc, Bool, true, false, Option, Some, None, List, [], ◌∷◌, ◌++◌, map, refl, ap, sym, ◌∙◌, subst, append-nil, append_assoc, cond, if◌then◌else◌}
use Rattle.std.specs.Prelude.{filter, slice_get}
use Rattle.std.proofs.lemmas.List.Elements.{filter-append}
use Rattle.served_places.specs.of_exchange_model.Rows.{Row}
use Rattle.served_places.proofs.of_exchange_model.Lists.{append_none}
use Rattle.served_places.specs.of_life_model.Lives.{Era, Life, Stand}
use Rattle.served_places.specs.of_link_mails.Body.{Body}
use Rattle.run_work.specs.of_master_duty.Reply.{Reply}
use Rattle.run_work.specs.of_master_hand.Spoken.{Asked, drive, file, is_passed, net, passed, sdo}
use Rattle.served_places.specs.of_segment_model.Ends.{Passing}
use Rattle.served_places.specs.of_segment_model.Seats.{newest, rows_of}
use Rattle.served_places.specs.Rows.{era_passings, eras_passings, eras_rows, is_passed_row, now_passing, passed_rows, passings}
use Rattle.served_rings.specs.Given.{AllGiven, Given, IsGiven, given, given_eras, given_in, given_newest, given_one}
use Rattle.served_rings.specs.Served.{AllHeard, AreServedEras, IsHeardOne, IsServedEra, IsServedLife, IsServedNewest, NothingCame, passing_before}
use Rattle.served_rings.specs.Speakers.{spoken, table_of}
use Rattle.run_work.specs.of_slave_model.Profile.{Profile}
use Rattle.run_work.specs.of_slave_parts.Parts.{Server}
use Rattle.run_work.specs.of_slave_server.Serving.{Serving}
use Rattle.run_work.specs.of_slave_node.Node.{Node}
use Rattle.served_places.specs.of_state_model.Families.{InState}
use Rattle.served_places.specs.of_state_model.Stated.{Service}
use Rattle.served_places.specs.of_state_model.Promises.{state_behind}
use Rattle.served_places.specs.of_state_model.Promise.{services_in}

abbrev RowHere : Type 0
RowHere = Row Body Asked Reply

abbrev over : RowHere → Option Passing
over r = None

module _ (p : Profile) (boot : Bool) (station : ℕ) where
  abbrev All : List Given → List (Option Passing) → List RowHere → Type 0
  All gs ps rs = AllGiven p boot station gs ps rs

  abbrev Heard : Option Passing → InState Server → List (Service Asked) → List RowHere → Type 0
  Heard passing v qs rs = AllHeard p boot station passing v qs rs

  all_append : (gs hs : List Given) (ps qs : List (Option Passing)) (rs ss : List RowHere) → All gs ps rs → All hs qs ss → All (gs ++ hs) (ps ++ qs) (rs ++ ss)
  all_append [] hs [] qs [] ss a b = b
  all_append [] hs [] qs (r ∷ rs) ss a b = absurd a
  all_append [] hs (o ∷ ps) qs rs ss a b = absurd a
  all_append (g ∷ gs) hs [] qs rs ss a b = absurd a
  all_append (g ∷ gs) hs (o ∷ ps) qs [] ss a b = absurd a
  all_append (g ∷ gs) hs (o ∷ ps) qs (r ∷ rs) ss a b = (a.0, all_append gs hs ps qs rs ss a.1 b)

  -- one row more, where it passes a mail on
  one_more : (v : InState Server) (q : Asked) (passing : Option Passing) (r : RowHere) (gs : List Given) (ps : List (Option Passing)) (rs : List RowHere) → IsHeardOne p boot station v q passing r → All gs ps rs →
      All (given_one v q ++ gs) (cond (is_passed r.service) (passing ∷ ps) ps) (cond (is_passed r.service) (r ∷ rs) rs)
  one_more v q passing r gs ps rs one rest = subst (λ b. All (given_one v q ++ gs) (cond b (passing ∷ ps) ps) (cond b (r ∷ rs) rs)) (ap is_passed (sym one.0)) (by q one)
    where
      by : (q : Asked) → IsHeardOne p boot station v q passing r → All (given_one v q ++ gs) (cond (is_passed q) (passing ∷ ps) ps) (cond (is_passed q) (r ∷ rs) rs)
      by (sdo q) one = rest
      by (file q) one = rest
      by (drive q) one = rest
      by (net q) one = rest
      by (passed m) one = (record { service = one.0; heard = one.1 m refl }, rest)

  -- where it is over it is so by its epoch too
  by_epoch : (v : InState Server) (q : Asked) (qs : List (Service Asked)) (passing : Option Passing) (r : RowHere) → IsHeardOne p boot station v q (passing_before p boot station qs passing) r → IsHeardOne p boot station v q passing r
  by_epoch v q [] passing r one = one
  by_epoch v q (z ∷ qs) passing r one = (one.0, λ m is. let k = one.1 m is in record { begin = k.begin; all = λ none. k.all refl })

  -- behind services without rows there are no mails
  none_given : (passing : Option Passing) (v : InState Server) (qs : List (Service Asked)) → Heard passing v qs [] → All (given_in p boot station v qs) [] []
  none_given passing v [] h = tt
  none_given passing v (Service.Mails q ∷ qs) h = absurd h
  none_given passing v (Service.State target ∷ qs) h = none_given passing (record v { state = state_behind (table_of boot station) v.state target }) qs h

  no_rows : (passing : Option Passing) (v : InState Server) (past : List RowHere) (n : RowHere) → Heard passing v [] (past ++ n ∷ []) → ⊥
  no_rows passing v [] n h = h
  no_rows passing v (r ∷ past) n h = h

  abbrev newest_passing : RowHere → Option Passing → List (Option Passing)
  newest_passing n passing = if is_passed_row n then passing ∷ [] else []

  mapped : (r : RowHere) (rs : List RowHere) (passing : List (Option Passing)) (b : Bool) → map over (cond b (r ∷ rs) rs) ++ passing ≡ cond b (None ∷ (map over rs ++ passing)) (map over rs ++ passing)
  mapped r rs passing true = refl
  mapped r rs passing false = refl

  if_cond : (passing : Option Passing) (b : Bool) → (if b then passing ∷ [] else []) ≡ cond b (passing ∷ []) []
  if_cond passing true = refl
  if_cond passing false = refl

  some_given : (passing : Option Passing) (v : InState Server) (qs : List (Service Asked)) (past : List RowHere) (n : RowHere) → Heard passing v qs (past ++ n ∷ []) →
      All (given_in p boot station v qs) (map over (filter is_passed_row past) ++ newest_passing n passing) (filter is_passed_row (past ++ n ∷ []))
  some_given passing v [] past n h = absurd (no_rows passing v past n h)
  some_given passing v (Service.State target ∷ qs) past n h = some_given passing (record v { state = state_behind (table_of boot station) v.state target }) qs past n h
  some_given passing v (Service.Mails q ∷ qs) [] n h =
      let w = (spoken p).exec v q in
      subst (λ l. All (given_one v q ++ given_in p boot station w qs) l (cond (is_passed_row n) (n ∷ []) [])) (sym (if_cond passing (is_passed_row n)))
      (one_more v q passing n (given_in p boot station w qs) [] [] (by_epoch v q qs passing n h.0) (none_given passing w qs h.1))
  some_given passing v (Service.Mails q ∷ []) (r ∷ past) n h = absurd (no_rows passing ((spoken p).exec v q) past n h.1)
  some_given passing v (Service.Mails q ∷ (z ∷ qs)) (r ∷ past) n h =
      let w = (spoken p).exec v q in
      subst (λ l. All (given_one v q ++ given_in p boot station w (z ∷ qs)) l (cond (is_passed_row r) (r ∷ filter is_passed_row (past ++ n ∷ [])) (filter is_passed_row (past ++ n ∷ []))))
      (sym (mapped r (filter is_passed_row past) (newest_passing n passing) (is_passed_row r)))
      (one_more v q None r (given_in p boot station w (z ∷ qs)) (map over (filter is_passed_row past) ++ newest_passing n passing) (filter is_passed_row (past ++ n ∷ [])) h.0 (some_given passing w (z ∷ qs) past n h.1))

  -- OF AN EPOCH
  module _ (e : Era Body Asked Reply) where
    era_given : (v left done : InState Server) → IsServedEra p boot station v e left done → All (given_in p boot station v (services_in e.account.started)) (era_passings e) (filter is_passed_row (rows_of e.side))
    era_given v left done k = go e.side.now k.newest k.heard
      where
        go : (now : Option RowHere) → (now ≡ None → e.side.past ≡ []) → Heard e.passing v (services_in e.account.started) (e.side.past ++ newest now) →
            All (given_in p boot station v (services_in e.account.started)) (map over (filter is_passed_row e.side.past) ++ now_passing now e.passing) (filter is_passed_row (e.side.past ++ newest now))
        go None none h =
            let past = none refl in
            subst (λ l. All (given_in p boot station v (services_in e.account.started)) (map over (filter is_passed_row l) ++ []) (filter is_passed_row (l ++ []))) (sym past)
            (none_given e.passing v (services_in e.account.started) (subst (λ l. Heard e.passing v (services_in e.account.started) (l ++ [])) past h))
        go (Some n) some h = some_given e.passing v (services_in e.account.started) e.side.past n h

    -- one of which nothing came
    nothing_given : NothingCame e → All [] (era_passings e) (filter is_passed_row (rows_of e.side))
    nothing_given k =
        let both = append_none e.side.past (newest e.side.now) k.rows in
        subst (λ l. All [] (map over (filter is_passed_row l) ++ now_passing e.side.now e.passing) (filter is_passed_row (l ++ newest e.side.now))) (sym both.0) (go e.side.now both.1)
      where
        go : (now : Option RowHere) → newest now ≡ [] → All [] (now_passing now e.passing) (filter is_passed_row (newest now))
        go None none = tt
        go (Some n) none = absurd (let no : n ∷ [] ≡ [] = none in cc)

  -- ---- epochs
  passings_append : (es : List (Era Body Asked Reply)) (e : Era Body Asked Reply) → eras_passings (es ++ e ∷ []) ≡ eras_passings es ++ era_passings e
  passings_append [] e = append-nil (era_passings e)
  passings_append (d ∷ es) e = ap (λ l. era_passings d ++ l) (passings_append es e) ∙ sym (append_assoc (era_passings d) (eras_passings es) (era_passings e))

  rows_append : (es : List (Era Body Asked Reply)) (e : Era Body Asked Reply) → eras_rows (es ++ e ∷ []) ≡ eras_rows es ++ rows_of e.side
  rows_append [] e = append-nil (rows_of e.side)
  rows_append (d ∷ es) e = ap (λ l. rows_of d.side ++ l) (rows_append es e) ∙ sym (append_assoc (rows_of d.side) (eras_rows es) (rows_of e.side))

  one_era : (gs hs : List Given) (es : List (Era Body Asked Reply)) (e : Era Body Asked Reply) → All gs (eras_passings es) (filter is_passed_row (eras_rows es)) → All hs (era_passings e) (filter is_passed_row (rows_of e.side)) →
      All (gs ++ hs) (eras_passings es ++ era_passings e) (filter is_passed_row (eras_rows es ++ rows_of e.side))
  one_era gs hs es e a b =
      subst (All (gs ++ hs) (eras_passings es ++ era_passings e)) (sym (filter-append is_passed_row (eras_rows es) (rows_of e.side)))
      (all_append gs hs (eras_passings es) (era_passings e) (filter is_passed_row (eras_rows es)) (filter is_passed_row (rows_of e.side)) a b)

  more_eras : (gs hs : List Given) (es : List (Era Body Asked Reply)) (e : Era Body Asked Reply) → All gs (eras_passings es) (filter is_passed_row (eras_rows es)) → All hs (era_passings e) (filter is_passed_row (rows_of e.side)) →
      All (gs ++ hs) (eras_passings (es ++ e ∷ [])) (filter is_passed_row (eras_rows (es ++ e ∷ [])))
  more_eras gs hs es e a b =
      subst (λ l. All (gs ++ hs) l (filter is_passed_row (eras_rows (es ++ e ∷ [])))) (sym (passings_append es e))
      (subst (λ l. All (gs ++ hs) (eras_passings es ++ era_passings e) (filter is_passed_row l)) (sym (rows_append es e)) (one_era gs hs es e a b))

  eras_given : (start : ℕ) (first : InState Server) (es : List (Era Body Asked Reply)) (b : InState Server) (k : AreServedEras p boot station start first es b) → All (given_eras p boot station start first es b k) (eras_passings es) (filter is_passed_row (eras_rows es))
  eras_given start first _ _ AreServedEras.none = tt
  eras_given start first _ _ (AreServedEras.unopened es b e before none) =
      let gs = given_eras p boot station start first es b before in
      subst (λ l. All l (eras_passings (es ++ e ∷ [])) (filter is_passed_row (eras_rows (es ++ e ∷ [])))) (append-nil gs) (more_eras gs [] es e (eras_given start first es b before) (nothing_given e none))
  eras_given start first _ _ (AreServedEras.opened es b e left done before was) =
      more_eras (given_eras p boot station start first es b before) (given_in p boot station (record b { state = was.state }) (services_in e.account.started)) es e
      (eras_given start first es b before) (era_given e (record b { state = was.state }) left done was.era)

  newest_given : (start : ℕ) (from : InState Server) (e : Era Body Asked Reply) (n : Node Serving) (stand : Stand) (k : IsServedNewest p boot station start from e n stand) →
      All (given_newest p boot station start from e n stand k) (era_passings e) (filter is_passed_row (rows_of e.side))
  newest_given start from e n _ (IsServedNewest.lives left done inner state was rests) = era_given e (record from { state = was.state }) left done was.era
  newest_given start from e n _ (IsServedNewest.unopened stand shut none holds) = nothing_given e none
  newest_given start from e n _ (IsServedNewest.over stand shut left done was holds) = era_given e (record from { state = was.state }) left done was.era

  -- ALL ALONG A LIFE
  pub life_given : (start : ℕ) (first : InState Server) (l : Life Body Asked Reply) (n : Node Serving) (d : IsServedLife p boot station start first l n) → All (given p boot station start first l n d) (passings l) (passed_rows l)
  life_given start first l n d =
      one_era (given_eras p boot station start first l.past d.from d.past) (given_newest p boot station start d.from l.era n l.stand d.newest) l.past l.era
      (eras_given start first l.past d.from d.past) (newest_given start d.from l.era n l.stand d.newest)

  -- AT A PLACE
  pub given_at : (gs : List Given) (ps : List (Option Passing)) (rs : List RowHere) → All gs ps rs → (i : ℕ) (r : RowHere) → slice_get rs i ≡ Some r →
      (g : Given) × (passing : Option Passing) × (slice_get gs i ≡ Some g) × (slice_get ps i ≡ Some passing) × IsGiven p boot station g passing r
  given_at [] [] [] a i r e = absurd (let no : None ≡ Some r = e in cc)
  given_at [] [] (s ∷ rs) a i r e = absurd a
  given_at [] (o ∷ ps) rs a i r e = absurd a
  given_at (g ∷ gs) [] rs a i r e = absurd a
  given_at (g ∷ gs) (o ∷ ps) [] a i r e = absurd a
  given_at (g ∷ gs) (o ∷ ps) (s ∷ rs) a zero r e = let same : s ≡ r = cc in (g, o, refl, refl, subst (IsGiven p boot station g o) same a.0)
  given_at (g ∷ gs) (o ∷ ps) (s ∷ rs) a (suc i) r e = given_at gs ps rs a.1 i r e
