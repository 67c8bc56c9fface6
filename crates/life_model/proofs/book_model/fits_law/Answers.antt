-- The lemmas on fitting books, at the types of the function.
use Rattle.std.proofs.Common.{◌≡◌, true, false, [], refl, ap, sym, ◌∙◌, subst, append-nil}
use Rattle.life_model.specs.Book.{FitsFrom, says_state}
use Rattle.life_model.proofs.Walks.{walk}
use Rattle.life_model.proofs.Opens.{open_epochs, open_state, shut_says}
use Rattle.life_model.proofs.book_model.fits_law.Goals as goal

pub returns-clause-epochs : goal.returns-clause-epochs
returns-clause-epochs g c = λ w b start stop end has l.
    let k = walk w.exchange w.lawful w.states w.stated w.processor w.table w.cleared w.more w.spot w.frames b.gave w.forgets w.keeps b start stop [] end [] [] b.first b.epochs b.first (λ n. refl) l in
    subst (FitsFrom w.exchange w.states (w.table w.spot.station) w.cleared (λ a q. 1) b b.first) (append-nil b.epochs) (k.fits (has ∙ sym (k.same b.state)))

pub returns-clause-open_now : goal.returns-clause-open_now
returns-clause-open_now g c = λ w b start l has. record {
  epochs = open_epochs w.exchange w.lawful w.states w.stated w.processor w.table w.cleared w.more w.spot w.frames b.gave b w.forgets w.keeps start l (ap (w.states.told b.state) has.0);
  state = open_state w.exchange w.lawful w.states w.stated w.processor w.table w.cleared w.more w.spot w.frames b.gave b w.forgets w.keeps start l has.1;
}

pub returns-clause-shut : goal.returns-clause-shut
returns-clause-shut g c = λ w b start o. record {
  epochs =
      let k = walk w.exchange w.lawful w.states w.stated w.processor w.table w.cleared w.more w.spot w.frames b.gave w.forgets w.keeps b start o.stop [] o.end [] [] b.first b.epochs b.first (λ n. refl) o.life in
      subst (FitsFrom w.exchange w.states (w.table w.spot.station) w.cleared (λ a q. 1) b b.first) (append-nil b.epochs) (k.fits (o.app ∙ sym (k.same b.state)));
  state = λ says. absurd (
      let clash : false ≡ true =
      sym (ap (says_state w.exchange w.states (w.table w.spot.station) w.cleared (λ a q. 1) b.gave) o.epochs ∙ shut_says w.exchange w.lawful w.states w.stated w.processor w.table w.cleared w.more w.spot w.frames b.gave b o.past o.last o.shut) ∙ says in
      cc
      );
}
