use Rattle.std.proofs.Common.{◌≡◌, ℕ, Bool, true, cond, List, is_ok, Ok, Err, sym, refl, ap, ◌∙◌, subst}
use Rattle.std.proofs.lemmas.Bool.{both_ways}
use Rattle.image.specs.declared.fault.Fault.TheVariants.{Length}
use Rattle.image.specs.Faults.{Verdict}
use Rattle.image.specs.Sound.{Filled}
use Rattle.image.proofs.Sound.{rows_weaker}
use Rattle.image.proofs.fresh.new_image.Goals as goal

-- the two answers, by the test of the length
answered : (b c : Bool) → c ≡ b → cond {A = Verdict} c (Ok tt) (Err Length) ≡ cond b (Ok tt) (Err Length)
answered b c e = ap (λ (t : Bool). cond {A = Verdict} t (Ok tt) (Err Length)) e

filled_as : {k : ℕ} (kind : ℕ) {r : List ℕ} (row image : List ℕ) → k ≡ kind → r ≡ row → Filled k r image → Filled kind row image
filled_as {k} kind row image e f h = subst (λ (n : ℕ). Filled n row image) e (subst (λ (t : List ℕ). Filled k t image) f h)

pub returns-then-not-is_whole : goal.returns-then-not-is_whole
returns-then-not-is_whole g c =
    let no = c.if-not-is_whole.ensures in
    record {
      answer = answered _ _ no;
      refused = λ _. refl;
      made = λ yes. absurd (both_ways _ (sym no) yes);
      sound = λ yes. absurd (both_ways _ (sym no) yes);
    }

pub returns : goal.returns
returns g c =
    let yes = c.if-not-is_whole.ensures in
    let unpacked = g.K.Kind.unpacked in let kind = g.K.Kind.NUMBER in
    let row = c.pack.ensures ∙ ap g.K.Kind.packed c.home.ensures in
    let made : Filled kind (g.K.Kind.packed g.K.Kind.home) c.new_blocks.new.image =
    filled_as kind _ c.new_blocks.new.image c.NUMBER.ensures row c.new_blocks.ensures in
    record {
      answer = answered _ _ yes;
      refused = λ no. absurd (both_ways _ no (sym yes));
      made = λ _. made;
      sound = λ _. rows_weaker kind _ (λ bytes. is_ok (unpacked bytes) ≡ true) (λ bytes e. ap (λ t. is_ok (unpacked t)) e ∙ ap is_ok (g.met.K.Kind.unpacks_packed g.K.Kind.home)) _ made;
    }
