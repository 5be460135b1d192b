-- Examples that were worked by hand, to hold the definitions against (profile).
use Rattle.std.specs.Prelude.{ℕ, Bool, true, false, List, [], ◌∷◌, replicate, Some}
use Rattle.babel_value.specs.declared.addresses.Addr.TheVariants.{V4}
use Rattle.babel_value.specs.declared.keys.Peer.{Peer}
use Rattle.babel_link.specs.Histories.{MarksValue, first_marks, heard_marks}
use Rattle.babel_link.specs.Links.{new_link}
use Rattle.babel_link.specs.Neighbours.{Links, hello_of, ihu_of}

-- Hellos 65534, 0 and 2 of a new neighbour: 65535 and 1 were missed.
abbrev pub three_hellos : MarksValue
three_hellos = heard_marks 2 (heard_marks 0 (first_marks 65534))

abbrev pub five_marks : List Bool
five_marks = true ∷ false ∷ true ∷ false ∷ true ∷ []

-- Marks, newest first, and the number that is expected.
abbrev pub marks_with : List Bool → ℕ → MarksValue
marks_with marks expected = record { marks = marks; expected = expected }

-- A mark of a Hello that came, and fifteen of Hellos that were missed.
abbrev pub one_of_sixteen : List Bool
one_of_sixteen = true ∷ replicate 15 false

abbrev pub neighbour : Peer
neighbour = record { iface = 0; addr = V4 (192 ∷ 168 ∷ 0 ∷ 2 ∷ []) }

-- The neighbours after a multicast Hello at moment 0, with number 7 and interval 401.
abbrev pub after_hello : Links
after_hello = hello_of 0 neighbour false 7 401 []

-- One neighbour, of which only multicast Hellos are known.
abbrev pub only_multicast : List Bool → ℕ → ℕ → Links
only_multicast marks expected due =
    (neighbour, record new_link { multicast = Some (record { marks = marks_with marks expected; timer = Some (record { interval = 401; due = due }) }) }) ∷ []

-- And after an IHU at moment 0, with rxcost 96 and interval 1200; the Hello before it has no interval.
abbrev pub after_ihu : Links
after_ihu = ihu_of 0 neighbour 96 1200 (hello_of 0 neighbour false 8 0 (hello_of 0 neighbour false 7 0 []))
