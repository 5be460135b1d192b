-- The four parts in a row.
use Rattle.std.proofs.Common.{◌≡◌, ◌++◌, ℕ, List, flat_map, ap, subst, ◌∙◌, append_assoc}
use Rattle.std.specs.String.{string_bytes}
use Rattle.babel_control.specs.Changes.{dump_lines}
use Rattle.babel_control.specs.Lines.{neighbour_line, xroute_line, route_line}
use Rattle.babel_control.specs.declared.lines.Event.TheVariants.{Add}
use Rattle.babel_control.proofs.changes.Changes.write_all.Goals as goal

parts : (before first second third after a b c d : List ℕ) → first ≡ before ++ a → second ≡ first ++ b → third ≡ second ++ c → after ≡ third ++ d
    → after ≡ before ++ (a ++ (b ++ (c ++ d)))
parts before first second third after a b c d one two three four =
    four ∙ (ap (λ t. t ++ d) (three ∙ ap (λ t. t ++ c) (two ∙ ap (λ t. t ++ b) one))
    ∙ (append_assoc ((before ++ a) ++ b) c d
    ∙ (append_assoc (before ++ a) b (c ++ d)
    ∙ append_assoc before a (b ++ (c ++ d)))))

pub returns : goal.returns
returns c =
    let devices = c.args.devices.now in
    let neighbours = c.in_ok-write_known.ensures ∙ ap (λ known. string_bytes c.write_interfaces.new.out ++ flat_map (λ it. neighbour_line Add it.id it.row devices) known) c.deref.ensures.value in
    let prefixes = c.in_ok-write_xroutes.ensures ∙ ap (λ known. string_bytes c.write_known.new.out ++ flat_map (xroute_line Add) known) c.deref-2.ensures.value in
    let routes = c.in_ok-write_known-2.ensures ∙ ap (λ known. string_bytes c.write_xroutes.new.out ++ flat_map (λ it. route_line Add it.id it.row devices) known) c.deref-3.ensures.value in
    subst (λ changes. string_bytes c.write_known-2.new.out ≡ string_bytes c.args.out.now ++ dump_lines devices changes) c.self.view_is
    (parts _ _ _ _ _ _ _ _ _ c.in_ok-write_interfaces.ensures neighbours prefixes routes)
